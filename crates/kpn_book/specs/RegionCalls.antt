-- The commit of a region: its events are appended at once, and its processes are settled as they stand then.
use Rattle.std.specs.Prelude.{◌≡◌, ℕ, ◌+◌, ◌<◌, ◌≤◌, ◌^◌, Bool, true, false, List, ◌++◌, length}
use Rattle.std.specs.List.{list_all}
use Rattle.kpn_history.specs.declared.event.Event.{Event}
use Rattle.kpn_history.specs.declared.event.Event.TheVariants.{Get, Put, WaitEmpty, WaitFull, Ended, Grow}
use Rattle.kpn_history.specs.Talks.{process_events}
use Rattle.kpn_machine.specs.Machine.{Machine}
use Rattle.kpn_region.specs.Local.{is_in_region}
use Rattle.kpn_region.specs.Batch.{Batch}
use Rattle.kpn_region.specs.Joining.{AgreesWith, Joins}
use Rattle.kpn_book.specs.declared.answers.Refused.{Refused}
use Rattle.kpn_book.specs.declared.answers.Refused.TheVariants.{Stranger, NoMemory}
use Rattle.kpn_book.specs.Book.{Book, IsHeld}
use Rattle.kpn_book.specs.Regions.{SettleBelow}
use Rattle.kpn_book.specs.BatchCommits.{with_batch}

-- the commits can be counted, with this many more, and one more for each process
abbrev pub CanCount : (more : ℕ) → Book → Type 0
CanCount more book = book.commits + more + length book.tables.instances < 2 ^ 64

-- the batch agrees with the book, and its events can be counted
pub record CanJoin (b : Batch) (book : Book) : Type 0 where
  pub agrees : AgreesWith b book.machine
  pub countable : CanCount (length b.events) book

-- why the commit of a region is refused: what was claimed does not agree with the book, or memory for the events ran
-- out
abbrev pub RefusesRegion : Batch → Book → Refused → Type 0
RefusesRegion b book Stranger = ¬ CanJoin b book
RefusesRegion b book NoMemory = CanJoin b book
RefusesRegion b book other = ⊥

-- the events of the batch are appended, and then its processes are settled, in order of number; memory says whether
-- there was enough for all of them
pub record CommitsRegion (b : Batch) (memory : Bool) (before after : Book) : Type 0 where
  pub can_join : CanJoin b before
  pub joined : Machine
  pub joins : Joins b before.machine joined
  pub settle : SettleBelow b (with_batch b joined before) (length before.tables.instances) memory after

-- ---- what that comes to

-- an event of a process of the region, or a growth
abbrev pub is_at_stop : (within : ℕ → Bool) → Event → Bool
is_at_stop within (Get p c v) = within p
is_at_stop within (Put p c v) = within p
is_at_stop within (WaitEmpty p c) = within p
is_at_stop within (WaitFull p c) = within p
is_at_stop within (Ended p how) = within p
is_at_stop within (Grow p c n) = true
is_at_stop within event = false

-- the events of the batch are appended, and then those of the stops at which this many processes were committed. No
-- process of the region is held any more
pub record CommitsAtStops (b : Batch) (before after : Book) : Type 0 where
  pub tables : after.tables ≡ before.tables
  pub events : List Event
  pub history : after.history ≡ (before.history ++ b.events) ++ events
  pub own : list_all (is_at_stop (is_in_region b.now)) events ≡ true
  pub processes : ℕ
  pub commits : after.commits ≡ before.commits + process_events b.events + processes
  pub few : processes ≤ length before.tables.instances
  pub none_held : (p : ℕ) → is_in_region b.now p ≡ true → ¬ IsHeld after p
