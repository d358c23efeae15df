-- Two machines of a network that agree except for what is reserved. An event decides all the rest.
use Rattle.std.specs.Prelude.{◌≡◌, ℕ, ◌<◌, length}
use Rattle.kpn_net.specs.Tables.{Tables}
use Rattle.kpn_machine.specs.Machine.{Machine, channel_in, closed_in, wait_in, end_in, frame_in}

-- they agree on each channel and each process of the network
pub record AreSame (t : Tables) (a b : Machine) : Type 0 where
  pub journals : (c : ℕ) → c < length t.channels → (channel_in a c).journal ≡ (channel_in b c).journal
  pub read : (c : ℕ) → c < length t.channels → (channel_in a c).read ≡ (channel_in b c).read
  pub capacities : (c : ℕ) → c < length t.channels → (channel_in a c).capacity ≡ (channel_in b c).capacity
  pub retired : (c : ℕ) → c < length t.channels → (channel_in a c).is_retired ≡ (channel_in b c).is_retired
  pub closed : (c : ℕ) → c < length t.channels → closed_in a c ≡ closed_in b c
  pub waits : (p : ℕ) → p < length t.instances → wait_in a p ≡ wait_in b p
  pub ends : (p : ℕ) → p < length t.instances → end_in a p ≡ end_in b p
  pub frames : (p : ℕ) → p < length t.instances → frame_in a p ≡ frame_in b p
