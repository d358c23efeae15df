-- What a run on one thread is, without its code. The sources are fed their lists and closed. Then the run makes turns
-- of the front of the queue, each with the takes of all unread items of the sinks, up to the outcome.
use Rattle.std.specs.Prelude.{◌≡◌, ℕ, ◌+◌, ◌<◌, max, if◌then◌else◌, ℤ, List, [], ◌∷◌, ◌++◌, length, map, Some, None}
use Rattle.std.specs.List.{flat_map}
use Rattle.kpn_net.specs.Tables.{Tables, channel_at, is_source, is_sink, instance_at, program_of}
use Rattle.kpn_net.specs.Faults.{channel_numbers}
use Rattle.kpn_net.specs.Process.{Family}
use Rattle.kpn_net.specs.Iteration.{given_by}
use Rattle.kpn_step.specs.Frame.{start_frame}
use Rattle.kpn_history.specs.declared.event.Event.{Event}
use Rattle.kpn_history.specs.declared.event.Event.TheVariants.{Feed, Close, Take}
use Rattle.kpn_history.specs.Channels.{unread_on}
use Rattle.kpn_history.specs.Progress.{IsCaughtUp}
use Rattle.kpn_machine.specs.Machine.{frame_in}
use Rattle.kpn_book.specs.Schedule.{all_ready}
use Rattle.kpn_book.specs.declared.answers.Done.{Done}
use Rattle.kpn_book.specs.Book.{Book, held_count}
use Rattle.kpn_book.specs.Kept.{IsBook}
use Rattle.kpn_book.specs.Appending.{AllHappen}
use Rattle.kpn_book.specs.Stepping.{StepsNext}
use Rattle.kpn_book.specs.declared.outcome.Limits.{Limits}
use Rattle.kpn_book.specs.declared.outcome.Outcome.{Outcome}
use Rattle.kpn_book.specs.declared.report.Report.{Report}
use Rattle.kpn_book.specs.Outcomes.{IsOutcome}
use Rattle.kpn_book.specs.Reports.{IsWrittenFrom}

-- ---- the outside

-- channel c is fed its list and closed, if it is a source
abbrev pub supply_of : Tables → (given : Family) → (c : ℕ) → List Event
supply_of t given c = if is_source (channel_at t c) then map (Feed c) (given c) ++ Close c ∷ [] else []

-- each source is fed its list and closed, in order of number
abbrev pub supplies : Tables → (given : Family) → List Event
supplies t given = flat_map (supply_of t given) (channel_numbers t)

-- all that is unread on channel c is taken, if it is a sink
abbrev pub takes_of : Tables → List Event → (c : ℕ) → List Event
takes_of t H c = if is_sink (channel_at t c) then map (Take c) (unread_on H c) else []

-- all that is unread on the sinks is taken, in order of number
abbrev pub takes_from_sinks : Tables → List Event → List Event
takes_from_sinks t H = flat_map (takes_of t H) (channel_numbers t)

-- ---- the turns

-- a turn: the first process of the queue is claimed, makes no more steps than the quota, and is committed; then all
-- that is unread on the sinks is taken. A quota of 0 counts as 1
pub record IsTurn (quota : ℕ) (before after : Book) : Type 0 where
  pub answer : Done
  pub stepped : Book
  pub steps : StepsNext (max quota 1) answer before stepped
  pub takes : AllHappen (takes_from_sinks stepped.tables stepped.history) stepped after

-- a book before a turn: nobody is held, and the outside has nothing to do
pub record IsBeforeTurn (b : Book) : Type 0 where
  pub book : IsBook b
  pub nobody_held : held_count b ≡ 0
  pub served : IsCaughtUp b.tables b.history

-- this many turns lead from the first book to this one, and before each of them there was no outcome
pub data Turns (limits : Limits) (first : Book) : ℕ → Book → Type 0 where
  no_turn : Turns limits first 0 first
  one_turn_more : {n : ℕ} (before after : Book) → Turns limits first n before → IsBeforeTurn before
      → IsOutcome before.tables before.history before.commits limits None → IsTurn limits.quota before after
      → Turns limits first (n + 1) after

-- ---- the run

-- the book at the start: nothing has happened, each process is at the start of its program, and all are ready, in order
-- of number
pub record IsNewBook (t : Tables) (b : Book) : Type 0 where
  pub book : IsBook b
  pub tables : b.tables ≡ t
  pub history : b.history ≡ []
  pub frames : (p : ℕ) → p < length t.instances
      → frame_in b.machine p ≡ start_frame (program_of t p) (instance_at t p).pars
  pub schedule : b.schedule ≡ all_ready (length t.instances)
  pub commits : b.commits ≡ 0

-- a run on one thread of this many turns. From the start each source is fed its list and closed. Then come the turns,
-- and they lead to the last book, which has come to the outcome
pub record RunsHere (t : Tables) (lists : List (List ℤ)) (limits : Limits) (turns : ℕ) (outcome : Outcome) (last : Book)
    : Type 0 where
  pub first : Book
  pub begins : IsNewBook t first
  pub fed : Book
  pub supplied : AllHappen (supplies t (given_by t lists)) first fed
  pub made : Turns limits fed turns last
  pub comes_to : IsOutcome last.tables last.history last.commits limits (Some outcome)

-- the report of a run on one thread: it is written from the last book of such a run, and its commits are the turns
pub record IsReportHere (t : Tables) (lists : List (List ℤ)) (limits : Limits) (report : Report) : Type 0 where
  pub last : Book
  pub runs : RunsHere t lists limits report.commits report.outcome last
  pub written : IsWrittenFrom last report.outcome report
