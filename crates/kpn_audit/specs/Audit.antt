-- What an audit says of a list of events: that it is a legal history, with what stands after it; or which event is the
-- first after which no legal history goes on; or at which event a process used up the steps that it was allowed.
use Rattle.std.specs.Prelude.{◌≡◌, ◌↔◌, ℕ, ◌<◌, suc, true, List, length, take, map, Some, slice_get, slice_index_or, [], None}
use Rattle.kpn_net.specs.Tables.{Tables, program_of}
use Rattle.kpn_net.specs.Faults.{channel_numbers}
use Rattle.kpn_net.specs.Iteration.{IsLeast, lists_of}
use Rattle.kpn_step.specs.Frame.{Frame}
use Rattle.kpn_step.specs.Step.{step_of, Steps}
use Rattle.kpn_step.specs.Stops.{IsBetween}
use Rattle.kpn_history.specs.declared.event.Event.{Event}
use Rattle.kpn_history.specs.Talks.{is_of}
use Rattle.kpn_history.specs.Channels.{written_on, read_on, capacity_after, fed}
use Rattle.kpn_history.specs.Waiting.{waits_of}
use Rattle.kpn_history.specs.Ends.{IsQuiet}
use Rattle.kpn_history.specs.Legal.{HasNumbers, CanGo, Legal}
use Rattle.kpn_history.specs.Stops.{OwesNothing}
use Rattle.kpn_machine.specs.Run.{IsEndOf, StandsAfter}
use Rattle.kpn_audit.specs.Complete.{TellsComplete}
use Rattle.kpn_audit.specs.Place.{IsPlaceAfter, StopsWithin}
use Rattle.kpn_audit.specs.declared.findings.Audit.{Audit}
use Rattle.kpn_audit.specs.declared.findings.AuditFault.{AuditFault}
use Rattle.kpn_audit.specs.declared.findings.AuditFault.TheVariants.{Illegal, NoMemory, Budget, PolicyDiffers}
use Rattle.kpn_history.specs.declared.stored.Trace.{Trace}
use Rattle.kpn_audit.specs.Stored.{Differs, tables_for, history_in}

-- the events are a legal history, after which these are the journals, the numbers of items read, the capacities, the
-- complete channels, the waits and the ends, and which is quiet or not
pub record IsAudit {A : Type 0} (t : Tables) (H : List Event) (audit : Audit A) : Type 0 where
  pub legal : Legal t H
  pub journals : audit.journals ≡ lists_of t (written_on H)
  pub reads : audit.reads ≡ map (λ c. length (read_on H c)) (channel_numbers t)
  pub caps : audit.caps ≡ map (capacity_after t H) (channel_numbers t)
  pub complete : TellsComplete t H audit.complete
  pub waits : audit.waits ≡ waits_of t H
  pub process_count : length audit.ends ≡ length t.instances
  pub ends : (p : ℕ) → p < length t.instances → IsEndOf H p (slice_index_or audit.ends p None)
  pub exact : (audit.exact ≡ true) ↔ IsQuiet t H

-- the journals are the least solution for what was fed
pub record AreLeast {A : Type 0} (t : Tables) (H : List Event) (audit : Audit A) : Type 0 where
  pub each : (c : ℕ) → c < length t.channels → IsLeast t (fed t H) c (slice_index_or audit.journals c [])

-- the events before event k are a legal history, and with it they are none
pub record IsIllegalAt (t : Tables) (H : List Event) (k : ℕ) : Type 0 where
  pub there : k < length H
  pub before : Legal t (take k H)
  pub ends : ¬ Legal t (take (suc k) H)

-- the event is one of a process that may go on; but from where the process stands after the history it makes as many
-- steps as it is allowed and is still between two of them: it has come to no read, no write and not to its end. A
-- place where the next step would be one that faults counts as between
pub record IsOutOfSteps (t : Tables) (H : List Event) (event : Event) (quota : ℕ) : Type 0 where
  pub process : ℕ
  pub own : is_of process event ≡ true
  pub numbers : HasNumbers t event
  pub can_go : CanGo t H process
  pub place : Frame
  pub is_place : IsPlaceAfter t H process place
  pub stands : StandsAfter t H process place
  pub reached : Frame
  pub steps : Steps (program_of t process).blocks quota place reached
  pub between : IsBetween (step_of (program_of t process).blocks reached)

-- the events before event k are a legal history that owes no growth, and the process of event k is out of steps
-- before it comes to the event
pub record IsBudgetAt (t : Tables) (H : List Event) (quota k : ℕ) : Type 0 where
  pub event : Event
  pub there : slice_get H k ≡ Some event
  pub before : Legal t (take k H)
  pub nothing_owed : OwesNothing t (take k H)
  pub out_of_steps : IsOutOfSteps t (take k H) event quota

-- process p comes to its next stop after a history within the steps that it is allowed
pub record ComesInTime (t : Tables) (H : List Event) (quota p : ℕ) : Type 0 where
  pub place : Frame
  pub is_place : IsPlaceAfter t H p place
  pub stops : StopsWithin (program_of t p).blocks quota place

-- event k needs no more steps than are allowed: where it is judged by where its process stops, that process comes
-- there in time. Else it needs none: it is of no process, its numbers are not there, a growth is owed before it, or its
-- process has ended or is blocked
abbrev pub IsWithinSteps : Tables → List Event → (quota k : ℕ) → Type 0
IsWithinSteps t H quota k =
    (event : Event) (p : ℕ) → slice_get H k ≡ Some event → is_of p event ≡ true → HasNumbers t event
    → OwesNothing t (take k H) → CanGo t (take k H) p → ComesInTime t (take k H) quota p

-- the same of each of the first n events
abbrev pub AreWithinSteps : Tables → List Event → (quota n : ℕ) → Type 0
AreWithinSteps t H quota n = (k : ℕ) → k < n → IsWithinSteps t H quota k

-- what each fault of a list of events says. No event before k is out of steps, and an illegal one is not either
abbrev pub IsFault : Tables → List Event → (quota : ℕ) → AuditFault → Type 0
IsFault t H quota (Illegal k) = IsIllegalAt t H k × AreWithinSteps t H quota (suc k)
IsFault t H quota NoMemory = Unit {0}
IsFault t H quota (Budget k) = IsBudgetAt t H quota k × AreWithinSteps t H quota k
IsFault t H quota PolicyDiffers = ⊥

-- why a trace is refused: for its rules of growth, or else for its events
abbrev pub IsRefusal : {A : Type 0} → Tables → Trace A → (quota : ℕ) → AuditFault → Type 0
IsRefusal t trace quota PolicyDiffers = Differs t trace
IsRefusal t trace quota fault = (¬ Differs t trace) × IsFault (tables_for t trace) (history_in t trace) quota fault
