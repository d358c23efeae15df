-- What watches a stream.
use Rattle.std.specs.Prelude.{◌≡◌, ◌⊎◌, ℕ, ◌<◌, ◌≤◌, Bool, true, false, length, count_by, IsTrue, Some}
use Rattle.kpn_history.specs.Views.{is_ended}
use Rattle.kpn_text.specs.Document.{Document}
use Rattle.kpn_book.specs.Book.{Book}
use Rattle.kpn_book.specs.Schedule.{state_at}
use Rattle.kpn_command_base.specs.Faulted.{is_faulted}
use Rattle.kpn_command_base.specs.StreamRequest.{StreamRequest}
use Rattle.kpn_stream.specs.declared.ending.StreamEnding.{StreamEnding}
use Rattle.kpn_stream.specs.Ending.{is_halted}
use Rattle.kpn_stream.specs.Watching.{Watched}
use Rattle.kpn_command_stream.specs.declared.watching.StreamWatcher.{StreamWatcher}

-- a process has ended by a fault
abbrev pub HasFaulted : Book → Type 0
HasFaulted b = (p : ℕ) × (p < length b.tables.instances) × (is_faulted (state_at b.schedule.states p) ≡ true)

-- none of the first processes has
abbrev pub HaveNotFaulted : (count : ℕ) → Book → Type 0
HaveNotFaulted count b = (p : ℕ) → p < count → is_faulted (state_at b.schedule.states p) ≡ false

-- the events are kept, and are so many that their trace is too long to be read: the line of each has at least 8 bytes
abbrev pub HasLongTrace : Book → Type 0
HasLongTrace b = IsTrue b.keeps_events × (33554432 < length b.history)

-- a look ends the stream if and only if a process has ended by a fault and this is asked for, or the trace is too long
pub record EndsInTime (stops : Bool) (b : Book) (ends : Bool) : Type 0 where
  pub cause : ends ≡ true → ((stops ≡ true) × HasFaulted b) ⊎ HasLongTrace b
  pub none : ends ≡ false → stops ≡ true → HaveNotFaulted (length b.tables.instances) b
  pub short : ends ≡ false → IsTrue b.keeps_events → length b.history ≤ 33554432

-- as many processes had ended at its last look
abbrev pub KnowsEnded : {E : Type 0} → StreamWatcher E → Book → Type 0
KnowsEnded watcher b = watcher.ended ≡ count_by is_ended b.schedule.states

-- a look: the place for faults is told of the book
pub record LooksAt {E : Type 0} (hears : E → Document → Book → E → Type 0) (before : StreamWatcher E) (b : Book)
    (halts : Bool) (after : StreamWatcher E) : Type 0 where
  pub document : after.document ≡ before.document
  pub stops : after.stops ≡ before.stops
  pub name : after.err.ghost_name ≡ before.err.ghost_name
  pub told : hears before.err.now before.document.now b after.err.now
  pub ends : EndsInTime before.stops b halts

-- While a stream ran that has come to this book, the place for faults was told of its books: before each read of a
-- source of one in which the same processes had ended. The stream has ended so if and only if a look has ended it.
pub record WasTold {E : Type 0} (hears : E → Document → Book → E → Type 0) (request : StreamRequest) (d : Document)
    (ending : StreamEnding) (b : Book) (err told : E) : Type 0 where
  pub first : StreamWatcher E
  pub last : StreamWatcher E
  pub watched : Watched d.tables KnowsEnded (LooksAt hears) first b.history (is_halted (Some ending)) last
  pub document : first.document.now ≡ d
  pub stops : first.stops ≡ request.stops
  pub none_ended : first.ended ≡ 0
  pub begins : first.err.now ≡ err
  pub ends : last.err.now ≡ told
