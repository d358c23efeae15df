-- Turns of which nobody sees the order. Before each of them the queue may come to another order, and its first process
-- may make steps.
use Rattle.std.specs.Prelude.{◌≡◌, ℕ, ◌+◌, ◌<◌, ◌≤◌, [], Option, None}
use Rattle.kpn_book.specs.Book.{Book}
use Rattle.kpn_book.specs.Kept.{IsBook}
use Rattle.kpn_book.specs.InARow.{IsStepInRow, StepsUncommitted}

-- nothing has happened, and the queue is in another order
pub record IsReordered (before after : Book) : Type 0 where
  pub is : IsBook after
  pub same : after ≡ record before { schedule = record before.schedule { queue = after.schedule.queue } }

-- turns lead from the first book to this one, in any order, and only the last has put an item on a sink, if it has,
-- namely on this one
pub data TurnsInAnyOrder (quota : ℕ) (first : Book) : (sink : Option ℕ) → Book → Type 0 where
  no_turn : TurnsInAnyOrder quota first None first
  another_order : {sink : Option ℕ} (before after : Book) → TurnsInAnyOrder quota first sink before
      → IsReordered before after → TurnsInAnyOrder quota first sink after
  steps_on : {sink : Option ℕ} (before after : Book) → TurnsInAnyOrder quota first sink before
      → StepsUncommitted quota before after → TurnsInAnyOrder quota first sink after
  one_turn_more : {sink : Option ℕ} (before after : Book) → TurnsInAnyOrder quota first None before
      → IsStepInRow quota sink before after → TurnsInAnyOrder quota first sink after

-- at most this many turns in any order; at least one is made if a process is ready
pub record RunsInAnyOrder (quota most : ℕ) (sink : Option ℕ) (before after : Book) : Type 0 where
  pub turns : TurnsInAnyOrder quota before sink after
  pub within : after.commits ≤ before.commits + most
  pub some : ((before.schedule.queue ≡ []) → ⊥) → 0 < most → before.commits < after.commits

-- memory ran out after fewer turns, of which none has put an item on a sink
pub record AnyOrderInVain (quota most : ℕ) (before after : Book) : Type 0 where
  pub turns : TurnsInAnyOrder quota before None after
  pub fewer : after.commits < before.commits + most
