-- What stays true while the code retires the channels of a process that has ended. A reader of the public contracts
-- needs none of it.
use Rattle.std.specs.Prelude.{◌≡◌, ℕ, Bool, false, nat_eq, IsTrue, List, length}
use Rattle.std.specs.List.{Contains, list_any, filter_map}
use Rattle.kpn_net.specs.declared.wait.Wait.{Wait}
use Rattle.kpn_net.specs.declared.wait.Wait.TheVariants.{Nobody, Empty, Full}
use Rattle.kpn_net.specs.Tables.{Tables}
use Rattle.kpn_net.specs.Waits.{AreWaits}
use Rattle.kpn_chan.specs.Channel.{ChannelState, retired}
use Rattle.kpn_machine.specs.Machine.{Machine, channel_in}
use Rattle.kpn_machine.specs.Woken.{waiting_writer, AreWoken}

-- the wait is on one of these channels as full
abbrev pub is_wait_on_full_among : List ℕ → Wait → Bool
is_wait_on_full_among ports Nobody = false
is_wait_on_full_among ports (Empty d) = false
is_wait_on_full_among ports (Full d) = list_any (nat_eq d) ports

-- the channel is retired, and what was reserved stays so
pub record IsRetiredAs (before after : ChannelState) : Type 0 where
  pub is : after ≡ retired after.is_reserved before
  pub keeps : IsTrue before.is_reserved → IsTrue after.is_reserved

-- what the code has done at these ports
pub record EndSoFar (t : Tables) (before now : Machine) (ports told : List ℕ) : Type 0 where
  pub channels : length now.channels ≡ length before.channels
  pub closed : now.closed ≡ before.closed
  pub ends : now.ends ≡ before.ends
  pub frames : now.frames ≡ before.frames
  pub own : AreWaits t now.waits
  pub retires : (d : ℕ) → Contains ports d → IsRetiredAs (channel_in before d) (channel_in now d)
  pub keeps : (d : ℕ) → (Contains ports d → ⊥) → channel_in now d ≡ channel_in before d
  pub waits : AreWoken (is_wait_on_full_among ports) before.waits now.waits
  pub woken : told ≡ filter_map (waiting_writer t before.waits) ports
