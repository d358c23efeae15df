-- Rings: cycles of processes that each wait on an empty channel for the next. What a ring waits for never comes,
-- whatever the capacities, so it is a true deadlock. A cycle with a full channel is an artificial one (Parks 1995): a
-- larger capacity resolves it.
use Rattle.std.specs.Prelude.{◌≡◌, ℕ, false, List, ◌∷◌, ◌++◌, Contains}
use Rattle.kpn_net.specs.declared.wait.Wait.{Wait}
use Rattle.kpn_net.specs.declared.wait.Wait.TheVariants.{Empty}
use Rattle.kpn_net.specs.Tables.{Tables}
use Rattle.kpn_net.specs.Waits.{wait_at, IsCycle}
use Rattle.kpn_history.specs.declared.event.Event.{Event}
use Rattle.kpn_history.specs.Talks.{is_of}
use Rattle.kpn_history.specs.Waiting.{waits_of}
use Rattle.kpn_history.specs.Legal.{Legal}

-- a process waits on an empty channel
pub record AwaitsItem (waits : List Wait) (p : ℕ) : Type 0 where
  pub channel : ℕ
  pub is : wait_at waits p ≡ Empty channel

-- a ring through p: p waits for the first of the others, each of them for the next, and the last for p, all of them on
-- empty channels
pub record IsRing (t : Tables) (waits : List Wait) (p : ℕ) (others : List ℕ) : Type 0 where
  pub cycle : IsCycle t waits p others
  pub empty : (q : ℕ) → Contains (p ∷ others) q → AwaitsItem waits q

-- there is a ring
pub record HasRing (t : Tables) (waits : List Wait) : Type 0 where
  pub first : ℕ
  pub others : List ℕ
  pub ring : IsRing t waits first others

-- no legal history that goes on from one with these waits has an event of one of these processes after it
abbrev pub AreFinal : Tables → List Wait → (members : List ℕ) → Type 0
AreFinal t waits members =
    (H more : List Event) → waits ≡ waits_of t H → Legal t (H ++ more) → (q : ℕ) → Contains members q → (event : Event)
    → Contains more event → is_of q event ≡ false
