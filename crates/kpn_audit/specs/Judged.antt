-- What the auditor's code finds of one event. A reader of the public contract needs none of it.
use Rattle.std.specs.Prelude.{◌≡◌, ◌≢◌, ℕ, ◌<◌, true, List, [], ◌∷◌, ◌++◌, length, Option, Some, None}
use Rattle.kpn_net.specs.Tables.{Tables, program_of}
use Rattle.kpn_step.specs.declared.stop.Stop.{Stop}
use Rattle.kpn_step.specs.Frame.{Frame}
use Rattle.kpn_step.specs.Step.{Goes, step_of, Steps}
use Rattle.kpn_step.specs.Stops.{IsBetween}
use Rattle.kpn_history.specs.declared.event.Event.{Event}
use Rattle.kpn_history.specs.Talks.{is_of}
use Rattle.kpn_history.specs.Legal.{HasNumbers, Legal, OwesGrowth}
use Rattle.kpn_history.specs.Stops.{OwesNothing}
use Rattle.kpn_machine.specs.Machine.{Machine, frame_in, IsFree}
use Rattle.kpn_machine.specs.Due.{StandsFree}
use Rattle.kpn_machine.specs.Owed.{IsAwaitedBelowLimit}
use Rattle.kpn_machine.specs.Run.{IsRun}
use Rattle.kpn_machine.specs.declared.machine.growth.OwedGrowth.{OwedGrowth}
use Rattle.kpn_audit.specs.declared.judged.Judged.{Judged}
use Rattle.kpn_audit.specs.declared.judged.Judged.TheVariants.{Follows, Illegal, Budget}
use Rattle.kpn_audit.specs.Place.{StopsWithin, GoesBy, IsPlaceAfter}

-- each process stands at its place after a history
abbrev pub ArePlaces : Tables → List Event → Machine → Type 0
ArePlaces t H s = (p : ℕ) → p < length t.instances → IsPlaceAfter t H p (frame_in s p)

-- a process stands free at this stop, and can make no step there
pub record IsStopped (t : Tables) (s : Machine) (p : ℕ) (stop : Stop) : Type 0 where
  pub there : p < length t.instances
  pub stands : StandsFree t s p stop
  pub ends : (next : Frame) → step_of (program_of t p).blocks (frame_in s p) ≢ Goes next

-- a growth that is owed after a history, by the history and by the machine
pub record IsOwing (t : Tables) (H : List Event) (s : Machine) (growth : OwedGrowth) : Type 0 where
  pub there : growth.process < length t.instances
  pub now : IsAwaitedBelowLimit t s growth.channel
  pub owed : OwesGrowth t H growth.process growth.channel

-- what a history owes: this growth, or nothing
abbrev pub Owes : Tables → List Event → Machine → Option OwedGrowth → Type 0
Owes t H s None = OwesNothing t H
Owes t H s (Some growth) = IsOwing t H s growth

-- where each process goes by an event
abbrev pub AllGoBy : Tables → Event → (before after : Machine) → Type 0
AllGoBy t event before after =
    (p : ℕ) → p < length t.instances → GoesBy t p event (frame_in before p) (frame_in after p)

-- an event follows a history, and leads to a machine in which this is owed
pub record IsFollowed (t : Tables) (H : List Event) (event : Event) (before after : Machine)
    (owed : Option OwedGrowth) : Type 0 where
  pub run : IsRun t (H ++ event ∷ []) after
  pub owes : Owes t (H ++ event ∷ []) after owed
  pub goes : AllGoBy t event before after

-- what is found of an event if no more steps are needed to judge it
abbrev pub IsMade : Tables → List Event → Event → (before after : Machine) → Judged → Type 0
IsMade t H event before after (Follows owed) = IsFollowed t H event before after owed
IsMade t H event before after Illegal = ¬ Legal t (H ++ event ∷ [])
IsMade t H event before after Budget = ⊥

-- the same whatever history led to the machine, if that owes nothing
abbrev pub IsFound : Tables → Event → (before after : Machine) → Judged → Type 0
IsFound t event before after judged =
    (H : List Event) → IsRun t H before → OwesNothing t H → IsMade t H event before after judged

-- a number of steps leads one process from where it stands to where it stands then, and all others stay
pub record IsMoved (t : Tables) (p : ℕ) (before after : Machine) : Type 0 where
  pub steps : ℕ
  pub reached : Steps (program_of t p).blocks steps (frame_in before p) (frame_in after p)
  pub others : (q : ℕ) → q ≢ p → frame_in after q ≡ frame_in before q

-- a process that is free comes to its next stop within the steps that it is allowed
abbrev pub StopsInTime : Tables → Machine → (quota p : ℕ) → Type 0
StopsInTime t s quota p = IsFree s p → StopsWithin (program_of t p).blocks quota (frame_in s p)

-- so does the process of an event, if it is one of a process and has its numbers
abbrev pub IsInTime : Tables → Machine → (quota : ℕ) → Event → Type 0
IsInTime t s quota event = (p : ℕ) → is_of p event ≡ true → HasNumbers t event → StopsInTime t s quota p

-- the process of an event is free, and `quota` steps from where it stands it is between two of them
pub record IsUnreached (t : Tables) (before : Machine) (event : Event) (quota : ℕ) : Type 0 where
  pub process : ℕ
  pub there : process < length t.instances
  pub own : is_of process event ≡ true
  pub numbers : HasNumbers t event
  pub free : IsFree before process
  pub reached : Frame
  pub steps : Steps (program_of t process).blocks quota (frame_in before process) reached
  pub between : IsBetween (step_of (program_of t process).blocks reached)

-- what is found of an event after a history, which leads to the one machine, and the machine then
abbrev pub IsJudged : Tables → List Event → Event → (quota : ℕ) → (before after : Machine) → Judged → Type 0
IsJudged t H event quota before after (Follows owed) = IsFollowed t H event before after owed
IsJudged t H event quota before after Illegal = ¬ Legal t (H ++ event ∷ [])
IsJudged t H event quota before after Budget = OwesNothing t H × IsUnreached t before event quota
