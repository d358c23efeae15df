-- The schedule of a run: the state of each process, and the order in which to step those that are ready.
use Rattle.std.specs.Prelude.{◌≡◌, ◌↔◌, ℕ, ◌<◌, true, List, [], ◌∷◌, ◌++◌, length, drop, replicate, slice_index_or, slice_set, count_by, Contains}
use Rattle.std.specs.List.{range_with_len}
use Rattle.kpn_net.specs.Waits.{AreDistinct}
use Rattle.kpn_history.specs.declared.state.State.{State}
use Rattle.kpn_history.specs.declared.state.State.TheVariants.{Ready, Held}
use Rattle.kpn_history.specs.Views.{is_ready, is_stopped}

pub record Schedule : Type 0 where
  -- the state of each process, in order of number
  pub states : List State
  -- the ready processes, by number, in the order in which to step them
  pub queue : List ℕ

-- the state of a process; ready for a number that no process has
abbrev pub state_at : List State → ℕ → State
state_at states p = slice_index_or states p Ready

-- the queue holds each ready process once, and no other process
pub record IsSchedule (s : Schedule) : Type 0 where
  pub once : AreDistinct s.queue
  pub ready : (p : ℕ) → (Contains s.queue p ↔ ((p < length s.states) × (state_at s.states p ≡ Ready)))
  pub count : length s.queue ≡ count_by is_ready s.states

-- each process has ended or waits
abbrev pub AreAllStopped : List State → Type 0
AreAllStopped states = (p : ℕ) → p < length states → is_stopped (state_at states p) ≡ true

-- ---- changes

-- this many processes, all ready, in order of number
abbrev pub all_ready : ℕ → Schedule
all_ready processes = record { states = replicate processes Ready; queue = range_with_len 0 processes }

-- the first process of the queue, p, becomes held
pub record HoldsFirst (p : ℕ) (before after : Schedule) : Type 0 where
  pub there : p < length before.states
  pub was_ready : state_at before.states p ≡ Ready
  pub queue : before.queue ≡ p ∷ after.queue
  pub states : after.states ≡ slice_set before.states p Held

-- the schedule after the first process of the queue, p, has become held
abbrev pub first_held : (p : ℕ) → Schedule → Schedule
first_held p s = record { states = slice_set s.states p Held; queue = drop 1 s.queue }

-- process p becomes ready, at the tail of the queue
abbrev pub made_ready : (p : ℕ) → Schedule → Schedule
made_ready p s = record { states = slice_set s.states p Ready; queue = s.queue ++ p ∷ [] }

-- process p is in this state; the queue stays
abbrev pub with_state : (p : ℕ) → State → Schedule → Schedule
with_state p state s = record s { states = slice_set s.states p state }
