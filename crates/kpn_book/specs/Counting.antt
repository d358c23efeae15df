-- Counts of processes by state, kept step by step. A reader of the public contracts needs none of it.
use Rattle.std.specs.Prelude.{◌≡◌, ℕ, ◌+◌, ◌-◌, Bool, not, if◌then◌else◌, List, count_by}
use Rattle.kpn_history.specs.declared.state.State.{State}
use Rattle.kpn_history.specs.declared.state.State.TheVariants.{Ready, Held, WaitsEmpty, WaitsFull, Ended}
use Rattle.kpn_history.specs.Views.{is_stopped, waits_empty, waits_full, is_ended}
use Rattle.kpn_book.specs.declared.counting.Tally.{Tally}

-- a process in this state is ready or held
abbrev pub goes : State → Bool
goes state = not (is_stopped state)

-- the tally of a list of states
pub record IsTally (states : List State) (tally : Tally) : Type 0 where
  pub going : tally.going ≡ count_by goes states
  pub empty : tally.empty ≡ count_by waits_empty states
  pub full : tally.full ≡ count_by waits_full states
  pub ended : tally.ended ≡ count_by is_ended states

-- how many are counted with a state
abbrev pub count_in : State → Tally → ℕ
count_in Ready tally = tally.going
count_in Held tally = tally.going
count_in (WaitsEmpty c) tally = tally.empty
count_in (WaitsFull c) tally = tally.full
count_in (Ended how) tally = tally.ended

abbrev pub one_more_if : Bool → ℕ → ℕ
one_more_if is n = if is then n + 1 else n

abbrev pub one_less_if : Bool → ℕ → ℕ
one_less_if is n = if is then n - 1 else n

-- one more process is in this state
abbrev pub one_more_in : State → Tally → Tally
one_more_in state tally = record {
  going = one_more_if (goes state) tally.going;
  empty = one_more_if (waits_empty state) tally.empty;
  full = one_more_if (waits_full state) tally.full;
  ended = one_more_if (is_ended state) tally.ended;
}

-- one process fewer is in this state
abbrev pub one_less : State → Tally → Tally
one_less state tally = record {
  going = one_less_if (goes state) tally.going;
  empty = one_less_if (waits_empty state) tally.empty;
  full = one_less_if (waits_full state) tally.full;
  ended = one_less_if (is_ended state) tally.ended;
}
