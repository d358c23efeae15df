-- Regions on the book: the processes of a region are held together, and put back together, or committed at the stops of
-- a batch.
use Rattle.std.specs.Prelude.{◌≡◌, ◌≢◌, ℕ, ◌+◌, Bool, true, false, not, ◌&&◌, if◌then◌else◌, List, [], ◌∷◌, length, slice_set, Option, Some, None}
use Rattle.std.specs.List.{filter, range_with_len}
use Rattle.kpn_net.specs.declared.wait.Wait.{Wait}
use Rattle.kpn_net.specs.declared.wait.Wait.TheVariants.{Nobody}
use Rattle.kpn_net.specs.Waits.{wait_at}
use Rattle.kpn_step.specs.declared.stop.Stop.{Stop}
use Rattle.kpn_step.specs.declared.stop.Stop.TheVariants.{Paused}
use Rattle.kpn_history.specs.declared.state.State.{State}
use Rattle.kpn_history.specs.declared.state.State.TheVariants.{Held, WaitsEmpty, WaitsFull}
use Rattle.kpn_history.specs.Views.{is_held}
use Rattle.kpn_region.specs.Local.{is_in_region}
use Rattle.kpn_region.specs.Batch.{Batch, stop_in}
use Rattle.kpn_book.specs.declared.answers.Done.{Done}
use Rattle.kpn_book.specs.Schedule.{Schedule, state_at, first_held, made_ready, with_state}
use Rattle.kpn_book.specs.Book.{Book, put_back}
use Rattle.kpn_book.specs.Commits.{HandlesStop}

-- ---- a claim

-- these processes become held
abbrev pub all_held : List ℕ → List State → List State
all_held [] states = states
all_held (p ∷ ps) states = all_held ps (slice_set states p Held)

-- the ready processes of a region become held, and leave the queue; the others stay in their order
abbrev pub region_held : (within : ℕ → Bool) → Schedule → Schedule
region_held within s =
    record {
      states = all_held (filter within s.queue) s.states;
      queue = filter (λ p. not (within p)) s.queue;
    }

-- the ready processes of a batch become held
abbrev pub batch_held : Batch → Book → Book
batch_held b book = record book { schedule = region_held (is_in_region b.now) book.schedule }

-- process p, which is the first of the queue, has its turn in that: it becomes held, or goes to the tail
abbrev pub turned_if : (within : Bool) → (p : ℕ) → Schedule → Schedule
turned_if within p s = if within then with_state p Held (first_held p s) else made_ready p (first_held p s)

-- ---- a batch that is put back

-- process p goes to the tail of the queue if it is of the region and held
abbrev pub put_back_if : (within : Bool) → (p : ℕ) → Schedule → Schedule
put_back_if within p s = if within && is_held (state_at s.states p) then made_ready p s else s

abbrev pub all_put_back : (within : ℕ → Bool) → List ℕ → Schedule → Schedule
all_put_back within [] s = s
all_put_back within (p ∷ ps) s = all_put_back within ps (put_back_if (within p) p s)

-- the held processes of a region go to the tail of the queue, in order of number
abbrev pub region_put_back : (within : ℕ → Bool) → Schedule → Schedule
region_put_back within s = all_put_back within (range_with_len 0 (length s.states)) s

-- the held processes of a batch are put back
abbrev pub batch_put_back : Batch → Book → Book
batch_put_back b book = record book { schedule = region_put_back (is_in_region b.now) book.schedule }

-- ---- whom the events of a batch wake

-- by its state the process waits, and it waits for nobody any more
abbrev pub is_woken : State → Wait → Bool
is_woken (WaitsEmpty c) Nobody = true
is_woken (WaitsFull c) Nobody = true
is_woken state wait = false

-- process p, if it waits no more, becomes held if it is of the region, and else ready
abbrev pub woken_if : (within : Bool) → Wait → (p : ℕ) → Schedule → Schedule
woken_if within wait p s =
    if is_woken (state_at s.states p) wait then (if within then with_state p Held s else made_ready p s) else s

abbrev pub all_woken : (within : ℕ → Bool) → List Wait → List ℕ → Schedule → Schedule
all_woken within waits [] s = s
all_woken within waits (p ∷ ps) s = all_woken within waits ps (woken_if (within p) (wait_at waits p) p s)

-- those who wait no more are woken, in order of number
abbrev pub region_woken : (within : ℕ → Bool) → List Wait → Schedule → Schedule
region_woken within waits s = all_woken within waits (range_with_len 0 (length s.states)) s

-- ---- what becomes of the processes of a batch after its events

-- process p, which is held, is committed at this stop, or memory for that ran out and it is put back
abbrev pub commits_or_not : (memory : Bool) → (p : ℕ) → Stop → (before after : Book) → Type 0
commits_or_not true p s before after = (answer : Done) × HandlesStop p s answer before after
commits_or_not false p s before after = (s ≢ Paused) × (after ≡ put_back p before)

-- process p, which is held, is committed at the stop at which it can't go on; if it has none, it is put back
abbrev pub goes_to : (memory : Bool) → (p : ℕ) → Option Stop → (before after : Book) → Type 0
goes_to memory p (Some s) before after = commits_or_not memory p s before after
goes_to memory p None before after = (memory ≡ true) × (after ≡ put_back p before)

-- process p is of the region, and held. By whom no state says, so a batch settles also one that another has claimed
-- since
abbrev pub has_part : Batch → (p : ℕ) → Book → Bool
has_part b p book = is_in_region b.now p && is_held (state_at book.schedule.states p)

abbrev pub settles_if : (part : Bool) → (memory : Bool) → Batch → (p : ℕ) → (before after : Book) → Type 0
settles_if true memory b p before after = goes_to memory p (stop_in b p) before after
settles_if false memory b p before after = (memory ≡ true) × (after ≡ before)

-- what becomes of process p
abbrev pub Settles : (memory : Bool) → Batch → (p : ℕ) → (before after : Book) → Type 0
Settles memory b p before after = settles_if (has_part b p before) memory b p before after

-- this becomes of the processes below n, in order of number; memory says whether there was enough for all of them
pub data SettleBelow (b : Batch) (first : Book) : (n : ℕ) → (memory : Bool) → Book → Type 0 where
  none_yet : SettleBelow b first 0 true first
  one_more : {n : ℕ} {memory : Bool} (enough : Bool) (before after : Book) → SettleBelow b first n memory before
      → Settles enough b n before after → SettleBelow b first (n + 1) (memory && enough) after
