-- A walk along the waits of a machine, from a channel from writer to writer, says whether the channel is complete
-- in each history that leads there.
use Rattle.std.proofs.Common.{◌≡◌, ◌↔◌, ℕ, ◌+◌, ◌<◌, ◌≤◌, Bool, true, false, IsTrue, List, length, Option, Some, None, is_some, refl, sym, ◌∙◌, subst}
use Rattle.kpn_machine.proofs.Common.{false≢true, End, Process, Source, Sink, Empty, Tables, channel_at, is_source, writer_of, IsNetwork, IsOwnWait, Writes-writer_of, source-writer_of, writer_is_no_sink, read_below, How, Event, has_ended, ended_exactly, Machine, closed_in, wait_in, end_in, IsMachine, IsEndOf, IsRun}
use Rattle.kpn_history.specs.Complete.{IsComplete}
use Rattle.kpn_history.proofs.CompleteWalks.{Walked, walk_starts, complete_source, complete_if_ended, incomplete_if_neither, walk_more, walk_long}

-- in each history that leads here, a walk has come from one channel to another in this many steps
abbrev pub WalkedHere : Tables → Machine → (from steps at : ℕ) → Type 0
WalkedHere t s from steps at = (H : List Event) → IsRun t H s → Walked t H from steps at

-- the answer says whether the channel is complete in each history that leads here
abbrev pub TellsComplete : Tables → Machine → (c : ℕ) → Bool → Type 0
TellsComplete t s c answer = (H : List Event) → IsRun t H s → (IsTrue answer ↔ IsComplete t H c)

pub walk_begins : (t : Tables) (s : Machine) (c : ℕ) → WalkedHere t s c 0 c
walk_begins t s c H run = walk_starts t H c

-- an answer about the channel where a walk stands is one about the channel where it began
from_here : (t : Tables) (H : List Event) (from steps at : ℕ) → Walked t H from steps at → (answer : Bool)
    → (IsTrue answer ↔ IsComplete t H at) → (IsTrue answer ↔ IsComplete t H from)
from_here t H from steps at walk answer tells =
    (λ is. walk.same.1 (tells.0 is), λ complete. tells.1 (walk.same.0 complete))

-- ---- what the machine says of a process

ended_here : (t : Tables) (H : List Event) (s : Machine) → IsRun t H s → (p : ℕ) → p < length t.instances
    → is_some (end_in s p) ≡ true → has_ended H p ≡ true
ended_here t H s run p there is = by_end (end_in s p) (run.leads.ends p there) is
  where
    by_end : (end : Option How) → IsEndOf H p end → is_some end ≡ true → has_ended H p ≡ true
    by_end None lives is = absurd (false≢true is)
    by_end (Some how) ended is = (ended_exactly H p).1 (how, ended)

lives_here : (t : Tables) (H : List Event) (s : Machine) → IsRun t H s → (p : ℕ) → p < length t.instances
    → is_some (end_in s p) ≡ false → has_ended H p ≡ false
lives_here t H s run p there is = by_end (end_in s p) (run.leads.ends p there) is
  where
    by_end : (end : Option How) → IsEndOf H p end → is_some end ≡ false → has_ended H p ≡ false
    by_end None lives is = lives
    by_end (Some how) ended is = absurd (false≢true (sym is))

module _ (t : Tables) (network : IsNetwork t) (s : Machine) (from steps at : ℕ)
    (walk : WalkedHere t s from steps at) where
  -- the walk stands at a source
  pub tells_source : at < length t.channels → writer_of t at ≡ Source → (answer : Bool) → answer ≡ closed_in s at
      → TellsComplete t s from answer
  tells_source there source answer is H run =
      from_here t H from steps at (walk H run) answer
      (subst (λ b. IsTrue b ↔ IsComplete t H at) (sym (is ∙ run.leads.closed at there))
      (let exact = complete_source t H at source in (exact.1, exact.0)))

  -- the walk stands at a channel that no process writes
  pub tells_outside : at < length t.channels → ((p : ℕ) → writer_of t at ≡ Process p → ⊥) → (answer : Bool)
      → answer ≡ closed_in s at → TellsComplete t s from answer
  tells_outside there none answer is = tells_source there (by_writer (writer_of t at) refl) answer is
    where
      by_writer : (writer : End) → writer_of t at ≡ writer → writer_of t at ≡ Source
      by_writer (Process p) w = absurd (none p w)
      by_writer Source w = w
      by_writer Sink w = absurd (writer_is_no_sink t network at there w)

  -- the walk has made as many steps as there are processes, and stands at no source
  pub tells_round : length t.instances ≤ steps → at < length t.channels → is_source (channel_at t at) ≡ false
      → TellsComplete t s from true
  tells_round long there other H run =
      from_here t H from steps at (walk H run) true
      ((λ is. by_writer (writer_of t at) refl), (λ complete. refl))
    where
      by_writer : (writer : End) → writer_of t at ≡ writer → IsComplete t H at
      by_writer (Process p) w = walk_long t H from steps at p (walk H run) w long
      by_writer Source w = absurd (false≢true (sym other ∙ source-writer_of t at w))
      by_writer Sink w = absurd (writer_is_no_sink t network at there w)

  module _ (p : ℕ) (writer : writer_of t at ≡ Process p) where
    writer_there : p < length t.instances
    writer_there = let writes = Writes-writer_of t p at writer in writes.process

    -- the writer has ended
    pub tells_ended : is_some (end_in s p) ≡ true → TellsComplete t s from true
    tells_ended ended H run =
        from_here t H from steps at (walk H run) true
        ((λ is. complete_if_ended t H at p writer (ended_here t H s run p writer_there ended)), (λ complete. refl))

    -- the writer has not ended and waits on no empty channel
    pub tells_neither : is_some (end_in s p) ≡ false → ((d : ℕ) → wait_in s p ≡ Empty d → ⊥)
        → TellsComplete t s from false
    tells_neither lives other H run =
        from_here t H from steps at (walk H run) false (
          (λ is. absurd (false≢true is)),
          (λ complete.
              absurd
              (incomplete_if_neither t H at p writer (lives_here t H s run p writer_there lives)
              (λ d waits. other d (run.leads.waits p writer_there ∙ waits)) complete)),
        )

    -- the writer waits on an empty channel
    pub walk_on : (next : ℕ) → is_some (end_in s p) ≡ false → wait_in s p ≡ Empty next
        → WalkedHere t s from (steps + 1) next
    walk_on next lives waits H run =
        walk_more t H at p next writer (lives_here t H s run p writer_there lives)
        (sym (run.leads.waits p writer_there) ∙ waits) from steps (walk H run)

    pub next_there : IsMachine t s → (next : ℕ) → wait_in s p ≡ Empty next → next < length t.channels
    next_there shape next waits =
        read_below t network p next (subst (IsOwnWait t p) waits (shape.waits.own p writer_there))
