-- What stays true of a book in the midst of a call. A reader of the public contracts needs none of it.
use Rattle.std.specs.Prelude.{◌≡◌, ◌≢◌, ℕ, ◌+◌, ◌<◌, ◌≤◌, ◌^◌, ◌⊎◌, false, ℤ, IsTrue, if◌then◌else◌, List, [], ◌∷◌, ◌++◌, length, Option, Some, None, Contains, Result, Ok, Err, slice_get, slice_index}
use Rattle.std.specs.Option.{option_to_list}
use Rattle.kpn_net.specs.Tables.{Tables, instance_at, program_of, channel_at, is_sink}
use Rattle.kpn_lang.specs.Parts.{Parts}
use Rattle.kpn_net.specs.Waits.{AreDistinct}
use Rattle.kpn_step.specs.declared.stop.Stop.{Stop}
use Rattle.kpn_step.specs.declared.stop.Stop.TheVariants as stop
use Rattle.kpn_chan.specs.Channel.{with_room}
use Rattle.kpn_history.specs.declared.event.Event.{Event}
use Rattle.kpn_history.specs.Talks.{is_of_process}
use Rattle.kpn_history.specs.Views.{is_ready}
use Rattle.kpn_history.specs.Legal.{OwesGrowth, growth_after, waiter}
use Rattle.kpn_history.specs.Stops.{OwesNothing}
use Rattle.kpn_machine.specs.Machine.{channel_in, with_channel}
use Rattle.kpn_history.specs.declared.state.State.TheVariants.{Held}
use Rattle.kpn_book.specs.Schedule.{Schedule, HoldsFirst, state_at, first_held, made_ready}
use Rattle.kpn_book.specs.declared.open_book.Hold.{Hold}
use Rattle.kpn_book.specs.declared.open_book.Hold.TheVariants as hold
use Rattle.kpn_book.specs.declared.open_book.OpenBook.{OpenBook}
use Rattle.kpn_book.specs.declared.answers.Done.{Done}
use Rattle.kpn_book.specs.declared.answers.Done.TheVariants as done
use Rattle.kpn_book.specs.Book.{Book, IsClaimed, held_count}
use Rattle.kpn_book.specs.Appending.{Appends, AppendsAll, all_made_ready}
use Rattle.kpn_book.specs.Commits.{IsWriteTo, IsAnswer, ready_if_paused}
use Rattle.kpn_book.specs.Stepping.{ClaimsNobody}
use Rattle.kpn_book.specs.Kept.{IsInStep, IsKept}
use Rattle.kpn_book.specs.InARow.{IsStepInRow}
use Rattle.kpn_book.specs.GoingOn.{IsReordered, TurnsInAnyOrder}

-- the book that has these parts
abbrev pub book_of : {A : Type 0} → OpenBook A → Book
book_of parts =
    record {
      tables = parts.network.now;
      history = parts.history.events;
      machine = parts.machine;
      schedule = parts.schedule;
      commits = parts.commits;
      keeps_events = parts.history.is_kept;
    }

-- the next item of channel c is reserved
abbrev pub reserved_on : (c : ℕ) → Book → Book
reserved_on c b =
    record b { machine = with_channel c (with_room (channel_in b.machine c)) b.machine }

-- the book whose first ready process, p, is held
abbrev pub first_claimed : (p : ℕ) → Book → Book
first_claimed p b = record b { schedule = first_held p b.schedule }

-- the book with this schedule, in which these processes are ready besides
abbrev pub with_ready : List ℕ → Schedule → Book → Book
with_ready ps s b = record b { schedule = all_made_ready ps s }

-- ---- a process that is held while it is committed

-- process p is held so
abbrev pub IsHeldBy : Hold → (p : ℕ) → Schedule → Type 0
IsHeldBy hold.First p s = HoldsFirst p s (first_held p s)
IsHeldBy hold.Taken p s = (p < length s.states) × (state_at s.states p ≡ Held)

-- the schedule in which its state says so
abbrev pub holding : Hold → (p : ℕ) → Schedule → Schedule
holding hold.First p s = first_held p s
holding hold.Taken p s = s

abbrev pub held_by : Hold → (p : ℕ) → Book → Book
held_by hold p b = record b { schedule = holding hold p b.schedule }

-- ---- conditions within a call

-- these processes exist and are not ready, and each is listed once
pub record MayBeReady (s : Schedule) (ps : List ℕ) : Type 0 where
  pub once : AreDistinct ps
  pub each : (p : ℕ) → Contains ps p → (p < length s.states) × (is_ready (state_at s.states p) ≡ false)

-- 1 for an event of a process, else 0
abbrev pub of_process : Event → ℕ
of_process e = if is_of_process e then 1 else 0

-- one event has happened: it is appended, the schedule still agrees with the machine, and its process, if it has
-- one, is no longer held
pub record Follows (e : Event) (before after : Book) : Type 0 where
  pub appends : Appends e before after
  pub in_step : IsInStep after
  pub held : held_count after + of_process e ≡ held_count before

-- the history ends with a wait of process p
pub record EndsWithWait (H : List Event) (p : ℕ) : Type 0 where
  pub before : List Event
  pub wait : Event
  pub is : H ≡ before ++ wait ∷ []
  pub waits : waiter wait ≡ Some p

-- the growth of channel d, which is owed for some process, happens
pub record MakesGrowth (d : ℕ) (before after : Book) : Type 0 where
  pub grower : ℕ
  pub owed : OwesGrowth before.tables before.history grower d
  pub appends : Appends (growth_after before.tables before.history grower d) before after

-- the growth that is owed at a stop, if one is, happens: that of this channel
abbrev pub grows_at_stop : Option ℕ → (before after : Book) → Type 0
grows_at_stop None before after = OwesNothing before.tables before.history × (after ≡ before)
grows_at_stop (Some d) before after = MakesGrowth d before after

-- the growth that is owed for a wait of process p, if one is, happens
abbrev pub grows_if_owed : (p : ℕ) → Done → (before after : Book) → Type 0
grows_if_owed p done.Blocked before after = OwesNothing before.tables before.history × (after ≡ before)
grows_if_owed p (done.Grew d) before after = MakesGrowth d before after
grows_if_owed p other before after = ⊥

-- process p is committed at this stop, with this result, and the events are appended
pub record AnswersAt (p : ℕ) (s : Stop) (answer : Done) (before after : Book) : Type 0 where
  pub events : List Event
  pub answers : IsAnswer before p s answer events
  pub appends : AppendsAll events (ready_if_paused p answer before) after

-- the history leads to the machine, the schedule agrees with it, and no growth is owed
pub record IsSound (b : Book) : Type 0 where
  pub in_step : IsInStep b
  pub nothing_owed : OwesNothing b.tables b.history

-- memory is reserved for whatever process p may do at this stop: for this many events, and for an item
pub record IsReserved (p : ℕ) (s : Stop) (room : ℕ) (b : Book) : Type 0 where
  pub events : s ≢ stop.Paused → 2 ≤ room
  pub item : (c : ℕ) (v : ℤ) → IsWriteTo b.tables p s c v → IsTrue (channel_in b.machine c).is_reserved

-- the book is the same, except for this reservation
abbrev pub is_but_reserved : Stop → (before after : Book) → Type 0
is_but_reserved s before after =
    (after ≡ before)
    ⊎ ((s ≢ stop.Paused) × ((c : ℕ) × (c < length before.machine.channels) × (after ≡ reserved_on c before)))

-- process p is committed at a stop of this kind: the events are appended, the book is sound again, and the process is
-- no longer held
pub record Answered (p : ℕ) (asks : Stop → Type 0) (answer : Done) (before after : Book) : Type 0 where
  pub answers : (s : Stop) → asks s → AnswersAt p s answer before after
  pub sound : IsSound after
  pub released : held_count after + 1 ≡ held_count before

-- process p, which is held so, may be committed: the book is sound, and there is room for two events
pub record MayCommit {A : Type 0} (hold : Hold) (p : ℕ) (parts : OpenBook A) : Type 0 where
  pub held : IsHeldBy hold p parts.schedule
  pub sound : IsSound (held_by hold p (book_of parts))
  pub room : 2 ≤ parts.history.room

-- it is committed at a stop of this kind, and makes at most two events
pub record IsCommit {A : Type 0} (hold : Hold) (p : ℕ) (asks : Stop → Type 0) (answer : Done)
    (before after : OpenBook A) : Type 0 where
  pub answered : Answered p asks answer (held_by hold p (book_of before)) (book_of after)
  pub room : before.history.room ≤ after.history.room + 2

-- the same but for the schedule, which stays: it is left to say that the process is ready again, and then the one that
-- it wakes
pub record LeavesReady {A : Type 0} (hold : Hold) (p : ℕ) (asks : Stop → Type 0) (answer : Done) (woken : Option ℕ)
    (before after : OpenBook A) : Type 0 where
  pub schedule : after.schedule ≡ before.schedule
  pub may : MayBeReady (made_ready p (holding hold p before.schedule)) (option_to_list woken)
  pub answered : Answered p asks answer (held_by hold p (book_of before))
      (with_ready (option_to_list woken) (made_ready p (holding hold p before.schedule)) (book_of after))
  pub room : before.history.room ≤ after.history.room + 1

-- the growth that is owed, if one is, happens, and the book is sound again
pub record GrowsIfOwed (p : ℕ) (answer : Done) (before after : Book) : Type 0 where
  pub grows : grows_if_owed p answer before after
  pub sound : IsSound after
  pub held : held_count after ≡ held_count before

-- the growth that is owed at a stop, if one is, happens, and the book is sound again
pub record GrowsAtStop (channel : Option ℕ) (before after : Book) : Type 0 where
  pub grows : grows_at_stop channel before after
  pub sound : IsSound after
  pub held : held_count after ≡ held_count before

-- process p is the next to be held: it is the first of the queue, and one more held process can be counted
pub record IsNextHeld (p : ℕ) (b : Book) : Type 0 where
  pub holds : HoldsFirst p b.schedule (first_held p b.schedule)
  pub countable : b.commits + held_count b + 1 < 2 ^ 64

-- ---- what the calls return, and the book after them

-- this process is the next to be held, or none can be
abbrev pub next_by : Option ℕ → Book → Type 0
next_by (Some p) b = IsNextHeld p b
next_by None b = ClaimsNobody b

-- the first process of the queue is claimed, or none can be
abbrev pub claims_by : Option ℕ → (before after : Book) → Type 0
claims_by (Some p) before after = IsClaimed p before after × IsKept after
claims_by None before after = ClaimsNobody before

-- memory is reserved for this stop, for this many events and for an item, or memory ran out and nothing has changed
abbrev pub reserves_by : {T E : Type 0} → (p : ℕ) → Stop → Result T E → (before : Book) → (room : ℕ) → (after : Book)
    → Type 0
reserves_by p s (Ok _) before room after = IsReserved p s room after × is_but_reserved s before after
reserves_by p s (Err _) before room after = (s ≢ stop.Paused) × (after ≡ before)

-- ---- steps in a row

-- channel c, if it is a sink
abbrev pub if_sink : Tables → (c : ℕ) → Option ℕ
if_sink t c = if is_sink (channel_at t c) then Some c else None

-- channel c, if it is a sink and a commit with this result has put an item there
abbrev pub sink_of : Tables → (c : ℕ) → Done → Option ℕ
sink_of t c done.Put = if_sink t c
sink_of t c answer = None

-- the sink on which process p has put an item, if it was committed at this stop with this result and has put one
abbrev pub sink_by : Tables → (p : ℕ) → Stop → Done → Option ℕ
sink_by t p (stop.WantWrite port v) answer = sink_of t (slice_index (instance_at t p).outs port) answer
sink_by t p s answer = None

-- process p is committed at a stop of this kind, and has put an item on this sink or on none
pub record AnsweredFirst (p : ℕ) (asks : Stop → Type 0) (sink : Option ℕ) (before after : Book) : Type 0 where
  pub answer : Done
  pub answered : Answered p asks answer before after
  pub sink_is : (s : Stop) → asks s → sink ≡ sink_by before.tables p s answer

-- the same, once an item is reserved if the process would put one
pub record HandlesFirst (p : ℕ) (s : Stop) (sink : Option ℕ) (before after : Book) : Type 0 where
  pub reserved : Book
  pub but : is_but_reserved s before reserved
  pub answered : AnsweredFirst p (λ (z : Stop). z ≡ s) sink reserved after

-- one turn: a step of a row, after which the book is kept, and as many processes are held
pub record IsTurn (quota : ℕ) (sink : Option ℕ) (before after : Book) : Type 0 where
  pub step : IsStepInRow quota sink before after
  pub kept : IsKept after
  pub commits : after.commits ≡ before.commits + 1
  pub held : held_count after ≡ held_count before

-- ---- turns in any order

-- the first process of the queue, p, is committed at a stop of this kind, and stays the first. With the schedule of a
-- commit, which it does not have, the book would be that of the commit
pub record StaysFirst {A : Type 0} (p : ℕ) (asks : Stop → Type 0) (answer : Done) (before after : OpenBook A)
    : Type 0 where
  pub woken : Option ℕ
  pub may : MayBeReady (made_ready p (first_held p before.schedule)) (option_to_list woken)
  pub schedule : after.schedule ≡ all_made_ready (option_to_list woken) before.schedule
  pub answered : Answered p asks answer (first_claimed p (book_of before))
      (with_ready (option_to_list woken) (made_ready p (first_held p before.schedule)) (book_of after))

-- the same at this stop, by which it has put an item on this sink or on none
pub record HandlesAhead (p : ℕ) (s : Stop) (sink : Option ℕ) (before after : Book) : Type 0 where
  pub woken : Option ℕ
  pub may : MayBeReady (made_ready p (first_held p before.schedule)) (option_to_list woken)
  pub schedule : after.schedule ≡ all_made_ready (option_to_list woken) before.schedule
  pub handles : HandlesFirst p s sink (first_claimed p before)
      (with_ready (option_to_list woken) (made_ready p (first_held p before.schedule)) after)

-- process p has this program, and these channels at its ports
pub record HasProgramAndPorts (t : Tables) (p : ℕ) (program : Parts) (ins outs : List ℕ) : Type 0 where
  pub runs : program ≡ program_of t p
  pub reads : ins ≡ (instance_at t p).ins
  pub writes : outs ≡ (instance_at t p).outs

-- one turn in any order: a step of a row, after which the queue is in another order
pub record IsTurnAhead (quota : ℕ) (sink : Option ℕ) (before after : Book) : Type 0 where
  pub between : Book
  pub turn : IsTurn quota sink before between
  pub order : IsReordered between after

-- the sink on which a turn has put an item, if it has ended so
abbrev pub sink_at_end : Option (Option ℕ) → Option ℕ
sink_at_end (Some sink) = sink
sink_at_end None = None

-- process p, the first of the queue, has gone on in its turn, in which it had made this many gets and puts. If the turn
-- has not ended, p stays the first, and is committed once more
pub record GoesFurther (quota p made : ℕ) (ended : Option (Option ℕ)) (before after : Book) : Type 0 where
  pub turns : TurnsInAnyOrder quota before (sink_at_end ended) after
  pub tables : after.tables ≡ before.tables
  pub held : held_count after ≡ held_count before
  pub not_less : before.commits ≤ after.commits
  pub at_most : after.commits ≤ before.commits + 1
  pub begins : made ≡ 0 → after.commits ≡ before.commits + 1
  pub goes_on : ended ≡ None → (slice_get after.schedule.queue 0 ≡ Some p) × (after.commits ≡ before.commits + 1)
