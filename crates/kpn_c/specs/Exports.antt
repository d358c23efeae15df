-- What an export of a session tells C, by the number that it returns, and the session that it hands back.
use Rattle.std.specs.Str.{IsUtf8}
use Rattle.std.specs.Prelude.{◌≡◌, ◌⊎◌, ℕ, Bool, true, false, if◌then◌else◌, ℤ, List, map, Option, Some, None}
use Rattle.kpn_history.specs.declared.state.Verdict.{Verdict}
use Rattle.kpn_history.specs.declared.state.Verdict.TheVariants.{Ended, Clogged, Jammed}
use Rattle.kpn_history.specs.Ends.{IsVerdict}
use Rattle.kpn_book.specs.declared.answers.Refused.{Refused}
use Rattle.kpn_book.specs.Refusals.{Closes, RefusesClose, Leaves, RefusesLeave}
use Rattle.kpn_c.specs.Faults.{number_of_refusal}
use Rattle.kpn_c.specs.Calls.{FeedsEach, StepsEach, TakesEach, TellsCompleteness}
use Rattle.kpn_c.specs.declared.moving.SourceItem.{SourceItem}
use Rattle.kpn_c.specs.declared.moving.Wanted.{Wanted}
use Rattle.kpn_c.specs.declared.moving.Moved.{Moved}
use Rattle.kpn_c.specs.declared.sessions.Amounts.{Amounts}
use Rattle.kpn_c.specs.Moving.{Moves, code_of_moved}
use Rattle.kpn_c.specs.Session.{Session}
use Rattle.kpn_c.specs.declared.ends.PartCounts.{PartCounts}
use Rattle.kpn_c.specs.declared.ends.ChannelStatus.{ChannelStatus}
use Rattle.kpn_c.specs.Telling.{TellsState, counts_of}
use Rattle.kpn_c.specs.declared.processes.ProcessState.{ProcessState}
use Rattle.kpn_c.specs.States.{state_as}
use Rattle.kpn_history.specs.declared.stored.Version.TheVariants.{Two}
use Rattle.kpn_book.specs.RunHere.{IsNewBook}
use Rattle.kpn_book.specs.Remembering.{Remembers}
use Rattle.kpn_trace.specs.TraceText.{trace_text}
use Rattle.kpn_text_names.specs.Names.{number_of}
use Rattle.kpn_text.specs.declared.fault.TextFault.{TextFault}
use Rattle.kpn_text.specs.Spells.{SpellsDocument}
use Rattle.kpn_text.specs.Phases.{Refuses}
use Rattle.kpn_c.specs.Faults.{fault_of_text}
use Rattle.kpn_c.specs.Slices.{PutsToFront}
use Rattle.kpn_c.specs.Texts.{IsText}
use Rattle.kpn_c.specs.declared.codes.FaultPlace.{FaultPlace}
use Rattle.kpn_c.specs.declared.slot.Slot.{Slot}
use Rattle.kpn_c.specs.Sessions.{keeping_of, slot_with}

-- the session that was handed in leads to the one that is handed back
abbrev pub Leads : (Session → Session → Type 0) → (before after : Option Slot) → Type 0
Leads R before after = (s : Session) → before ≡ slot_with s → (u : Session) × (after ≡ slot_with u) × R s u

-- the number of the reason why a book refuses a call, or 0
abbrev pub code_of_cause : Option Refused → ℕ
code_of_cause None = 0
code_of_cause (Some cause) = number_of_refusal cause

abbrev pub code_of_verdict : Option Verdict → ℕ
code_of_verdict None = 0
code_of_verdict (Some Ended) = 1
code_of_verdict (Some Clogged) = 2
code_of_verdict (Some Jammed) = 3

-- this many items were fed to a source, and the number says why no more
pub record FeedsSource (source : ℕ) (items : List ℤ) (code count : ℕ) (before after : Session) : Type 0 where
  pub document : after.document ≡ before.document
  pub keeps : after.keeps ≡ before.keeps
  pub cause : Option Refused
  pub number : code ≡ code_of_cause cause
  pub feeds : FeedsEach source items (record { count = count; cause = cause }) before.book after.book

-- this many items were taken from a sink, and the number says why no more
pub record TakesFromSink (sink : ℕ) (room kept : List ℤ) (code count : ℕ) (before after : Session) : Type 0 where
  pub document : after.document ≡ before.document
  pub keeps : after.keeps ≡ before.keeps
  pub cause : Option Refused
  pub number : code ≡ code_of_cause cause
  pub takes : TakesEach sink (record { count = count; cause = cause }) room kept before.book after.book

-- this many commits were made, and the number says whether memory ran out
pub record StepsProcesses (most code commits : ℕ) (before after : Session) : Type 0 where
  pub document : after.document ≡ before.document
  pub keeps : after.keeps ≡ before.keeps
  pub is_refused : Bool
  pub number : code ≡ (if is_refused then 42 else 0)
  pub steps : StepsEach 1000 most (record { commits = commits; is_refused = is_refused }) before.book after.book

-- how much of each was done
abbrev pub amounts_of : Moved → Amounts
amounts_of moved =
    record { fed = moved.fed.count; commits = moved.stepped.commits; served = moved.taken.count }

-- items were fed, commits were made and places were served, as is told, and the number says why no more
pub record MovesItems (items : List SourceItem) (most code : ℕ) (told : Amounts) (asked kept : List Wanted)
    (before after : Session) : Type 0 where
  pub document : after.document ≡ before.document
  pub keeps : after.keeps ≡ before.keeps
  pub moved : Moved
  pub number : code ≡ code_of_moved moved
  pub amounts : told ≡ amounts_of moved
  pub moves : Moves items 1000 most moved asked kept before.book after.book

-- a source was closed, or the number says why not
pub record ClosesSource (source code : ℕ) (before after : Session) : Type 0 where
  pub document : after.document ≡ before.document
  pub keeps : after.keeps ≡ before.keeps
  pub closes : ((code ≡ 0) × Closes source before.book after.book)
      ⊎ ((cause : Refused) × (code ≡ number_of_refusal cause) × RefusesClose source before.book cause
      × (after.book ≡ before.book))

-- a sink was left, or the number says why not
pub record LeavesSink (sink code : ℕ) (before after : Session) : Type 0 where
  pub document : after.document ≡ before.document
  pub keeps : after.keeps ≡ before.keeps
  pub leaves : ((code ≡ 0) × Leaves sink before.book after.book)
      ⊎ ((cause : Refused) × (code ≡ number_of_refusal cause) × RefusesLeave sink before.book cause
      × (after.book ≡ before.book))

-- ---- what is told

-- this holds of the session, and nothing changes
pub record Asks (Told : Session → Type 0) (before after : Session) : Type 0 where
  pub same : after ≡ before
  pub told : Told before

-- how many processes and channels there are
abbrev pub TellsCounts : (code : ℕ) → PartCounts → Session → Type 0
TellsCounts code told s = (code ≡ 0) × (told ≡ counts_of s.document.tables)

-- the state of a channel is told, or that there is none with this number
abbrev pub TellsChannel : (channel code : ℕ) → ChannelStatus → Session → Type 0
TellsChannel channel code told s =
    ((code ≡ 0) × TellsState channel (Some told) s.book) ⊎ ((code ≡ 64) × TellsState channel None s.book)

-- the states of all processes are put to the front of a slice if they fit
abbrev pub TellsProcesses : (code told : ℕ) → (room kept : List ProcessState) → Session → Type 0
TellsProcesses code told room kept s = PutsToFront (map state_as s.book.schedule.states) code told room kept

-- the verdict is told, and nothing changes
pub record TellsVerdict (code told : ℕ) (before after : Session) : Type 0 where
  pub succeeds : code ≡ 0
  pub same : after ≡ before
  pub verdict : Option Verdict
  pub is : IsVerdict before.book.tables before.book.history verdict
  pub number : told ≡ code_of_verdict verdict

-- whether a channel is complete is told, or that there is none with this number, and nothing changes
pub record TellsIfComplete (channel code : ℕ) (told : Bool) (before after : Session) : Type 0 where
  pub same : after ≡ before
  pub tells : ((code ≡ 0) × TellsCompleteness channel (Some told) before.book)
      ⊎ ((code ≡ 64) × TellsCompleteness channel None before.book)

-- the number of the channel with this name is told, or that there is none, and nothing changes
pub record FindsChannel (name : List ℕ) (code number : ℕ) (before after : Session) : Type 0 where
  pub same : after ≡ before
  pub finds : IsUtf8 name
      → ((code ≡ 0) × (number_of before.document.names.channels name ≡ Some number))
      ⊎ ((code ≡ 64) × (number_of before.document.names.channels name ≡ None))
  pub nameless : ¬ IsUtf8 name → code ≡ 64

-- the text of the trace
abbrev pub trace_of : Session → List ℕ
trace_of s = trace_text Two s.book.tables.policy s.book.tables.growth s.book.history

-- the trace is put to the front of a slice, or memory ran out, or the session keeps none
abbrev pub TellsTrace : (code told : ℕ) → (room kept : List ℕ) → Session → Type 0
TellsTrace code told room kept s =
    ((s.keeps ≡ true) × (PutsToFront (trace_of s) code told room kept ⊎ ((code ≡ 42) × (kept ≡ room))))
    ⊎ ((s.keeps ≡ false) × (code ≡ 66) × (kept ≡ room))

-- ---- texts

-- the place of a fault, as C has it
abbrev pub place_as : Option ℕ → FaultPlace
place_as None = record { has_place = false; place = 0 }
place_as (Some place) = record { has_place = true; place = place }

-- the text is refused, and the fault is told by its number and its place
pub record TellsTextFault (text : List ℕ) (code : ℕ) (place : FaultPlace) : Type 0 where
  pub fault : TextFault
  pub refuses : Refuses text fault
  pub number : code ≡ (fault_of_text fault).number
  pub place_is : place ≡ place_as (fault_of_text fault).place

-- the text is a description, or its fault is told
abbrev pub Checks : (text : List ℕ) → (code : ℕ) → FaultPlace → Type 0
Checks text code place = ((code ≡ 0) × IsText text) ⊎ TellsTextFault text code place

-- a session of the network that the text describes, where nothing has happened, and which keeps all of what will, or
-- nothing
pub record IsNewSession (keeps : Bool) (text : List ℕ) (slot : Option Slot) : Type 0 where
  pub session : Session
  pub held : slot ≡ slot_with session
  pub spelled : SpellsDocument text session.document
  pub first : IsNewBook session.document.tables session.book
  pub keeps_so : session.keeps ≡ keeps
  pub kept : Remembers (keeping_of keeps) session.book

-- such a session is handed out, or what was there stays, and the fault is told or memory ran out
abbrev pub Opens : (keeps : Bool) → (text : List ℕ) → (code : ℕ) → FaultPlace → (before after : Option Slot) → Type 0
Opens keeps text code place before after =
    ((code ≡ 0) × IsNewSession keeps text after)
    ⊎ ((after ≡ before) × (TellsTextFault text code place ⊎ (code ≡ 42)))
