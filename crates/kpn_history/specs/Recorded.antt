-- What contracts see of a history that the code holds.
use Rattle.std.specs.Prelude.{◌≡◌, ℕ, Bool, true, false, List, []}
use Rattle.kpn_history.specs.declared.event.Event.{Event}

-- the events, oldest first, for how many more memory is reserved, and whether they are kept in memory
pub record Recorded : Type 0 where
  pub events : List Event
  pub room : ℕ
  pub is_kept : Bool

-- nothing is past if the events are kept, and else all is
pub record IsNoted (keeps : Bool) (past in_memory : List Event) : Type 0 where
  pub kept : keeps ≡ true → past ≡ []
  pub forgotten : keeps ≡ false → in_memory ≡ []
