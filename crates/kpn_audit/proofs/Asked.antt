-- What a process that stands at a read or a write is doing. An event of no process that is not one of the outside is a
-- growth.
use Rattle.std.proofs.Common.{◌≡◌, ◌≢◌, ℕ, Bool, true, false, ℤ, List, Option, refl, sym, subst, eq-eqb}
use Rattle.kpn_audit.proofs.Common.{Tables, instance_at, Event, Feed, Close, Take, Leave, Grow, is_of_process, is_growth_of, WantRead, WantWrite, is_channel_full, next_item, Machine, channel_in, IsFree, IsChannelAt, Stands, Reads, Writes, IsDoing}

-- what a free process at a read or a write is doing
module _ (t : Tables) (H : List Event) (event : Event) (quota : ℕ) (s : Machine) (p c : ℕ) (free : IsFree s p)
    (port : ℕ) where
  pub reads_there : IsChannelAt (instance_at t p).ins port c → Stands t s p (WantRead port) → (next : Option ℤ)
      → next ≡ next_item (channel_in s c) → IsDoing t H event quota s p (Reads c next)
  reads_there at stands next is = (free, record { port = port; channel = at; stands = stands }, is)

  pub writes_there : IsChannelAt (instance_at t p).outs port c → (v w : ℤ) → v ≡ w → Stands t s p (WantWrite port w)
      → (full : Bool) → full ≡ is_channel_full (channel_in s c) → IsDoing t H event quota s p (Writes c v full)
  writes_there at v w same stands full is =
      (free, record { port = port; channel = at; stands = subst (λ x. Stands t s p (WantWrite port x)) (sym same) stands }, is)

pub growth_left : (e : Event) → is_of_process e ≡ false → ((c : ℕ) (v : ℤ) → e ≢ Feed c v) → ((c : ℕ) → e ≢ Close c)
    → ((c : ℕ) (v : ℤ) → e ≢ Take c v) → ((c : ℕ) → e ≢ Leave c) → (c : ℕ) × (is_growth_of c e ≡ true)
growth_left (Feed c v) own feed close take leave = absurd (feed c v refl)
growth_left (Close c) own feed close take leave = absurd (close c refl)
growth_left (Take c v) own feed close take leave = absurd (take c v refl)
growth_left (Leave c) own feed close take leave = absurd (leave c refl)
growth_left (Grow p d n) own feed close take leave = (d, eq-eqb d d refl)
growth_left e own feed close take leave = absurd cc
