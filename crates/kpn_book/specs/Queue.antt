-- The queue as it is stored: a list of numbers, from which the first were taken.
-- A reader of the public contracts needs none of it.
use Rattle.std.specs.Prelude.{◌≤◌, ℕ, List, length, drop, vec_capacity}
use Rattle.kpn_book.specs.declared.queue.Queue.{Queue}

module _ {A : Type 0} where
  -- the numbers that wait to be taken
  abbrev pub waiting : Queue A → List ℕ
  waiting q = drop q.taken q.numbers.items

  -- no more were taken than were put, and there are places for this many
  pub record IsQueue (room : ℕ) (q : Queue A) : Type 0 where
    pub taken : q.taken ≤ length q.numbers.items
    pub places : room ≤ vec_capacity q.numbers
