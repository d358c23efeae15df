-- A book without held processes: what is put back, one process after the other.
use Rattle.std.specs.Prelude.{◌≡◌, ℕ, ◌<◌, false, length}
use Rattle.kpn_history.specs.Views.{is_held}
use Rattle.kpn_book.specs.Schedule.{state_at}
use Rattle.kpn_book.specs.Book.{Book}

-- a process with a number below k is not held
abbrev pub IsNoneHeldBelow : Book → (k : ℕ) → Type 0
IsNoneHeldBelow b k = (q : ℕ) → q < k → q < length b.schedule.states
    → is_held (state_at b.schedule.states q) ≡ false

-- nothing but the schedule changes
abbrev pub ChangesScheduleAlone : (before after : Book) → Type 0
ChangesScheduleAlone before after = after ≡ record before { schedule = after.schedule }

-- nothing but the schedule changes: process p is not held, and no other process is that was not
pub record Releases (p : ℕ) (before after : Book) : Type 0 where
  pub alone : ChangesScheduleAlone before after
  pub processes : length after.schedule.states ≡ length before.schedule.states
  pub here : p < length after.schedule.states → is_held (state_at after.schedule.states p) ≡ false
  pub others : (q : ℕ) → q < length after.schedule.states → is_held (state_at before.schedule.states q) ≡ false
      → is_held (state_at after.schedule.states q) ≡ false
