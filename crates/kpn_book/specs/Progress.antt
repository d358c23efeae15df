-- How many commits the run on one thread needs to make what another history has made: for each event of a process one
-- round of the queue, and one more for each pause before it.
use Rattle.std.specs.Prelude.{◌≡◌, ◌≢◌, ℕ, ◌+◌, ◌*◌, ◌≤◌, ◌⊎◌, true, false, List, [], ◌∷◌, ◌++◌, Some}
use Rattle.kpn_lang.specs.declared.talk.Said.{Said}
use Rattle.kpn_lang.specs.declared.talk.Said.TheVariants.{Got, Put}
use Rattle.kpn_net.specs.Tables.{Tables, instance_at, program_of}
use Rattle.kpn_step.specs.Frame.{Frame, start_frame}
use Rattle.kpn_step.specs.Step.{Step, Stops, Faults, Goes, Steps, step_of}
use Rattle.kpn_history.specs.declared.event.Event.{Event}
use Rattle.kpn_history.specs.Talks.{is_of, is_of_process, talk_of, last_event}
use Rattle.kpn_history.specs.Progress.{IsHalt}
use Rattle.kpn_machine.specs.Changes.{PassesRead, PassesWrite}

-- process p says this on its way from one frame to the next
abbrev pub PassesStop : Tables → (p : ℕ) → Said → Frame → Frame → Type 0
PassesStop t p (Got c v) before after = PassesRead t p c v before after
PassesStop t p (Put c v) before after = PassesWrite t p c v before after

-- process p comes from one frame to the other by saying this, and makes no step after it
abbrev pub Says : Tables → (p : ℕ) → List Said → Frame → Frame → Type 0
Says t p [] f g = g ≡ f
Says t p (said ∷ talk) f g =
    (steps : ℕ) × (stop next : Frame) × Steps (program_of t p).blocks steps f stop × PassesStop t p said stop next
    × Says t p talk next g

-- process p is at this frame directly after this talk
abbrev pub ComesAfter : Tables → (p : ℕ) → List Said → Frame → Type 0
ComesAfter t p talk f = Says t p talk (start_frame (program_of t p) (instance_at t p).pars) f

-- the steps that are tried at a stop: one that would fault
abbrev pub tried_at : Step → ℕ
tried_at (Stops s) = 0
tried_at (Faults fault) = 1
tried_at (Goes next) = 1

-- from this frame process p comes to a stop, with at most `pauses` pauses on the way, if it makes `quota` steps at once
pub record PausesFrom (t : Tables) (quota p : ℕ) (from : Frame) (pauses : ℕ) : Type 0 where
  pub to : Frame
  pub steps : ℕ
  pub stepped : Steps (program_of t p).blocks steps from to
  pub stops : (next : Frame) → step_of (program_of t p).blocks to ≢ Goes next
  pub few : steps + tried_at (step_of (program_of t p).blocks to) ≤ quota * (pauses + 1)

-- the same after this talk
pub record PausesAfter (t : Tables) (quota p : ℕ) (talk : List Said) (pauses : ℕ) : Type 0 where
  pub from : Frame
  pub after : ComesAfter t p talk from
  pub on : PausesFrom t quota p from pauses

-- process p has made a wait or its end last
pub record HasJustHalted (H : List Event) (p : ℕ) : Type 0 where
  pub event : Event
  pub last : last_event H p ≡ Some event
  pub halts : IsHalt event

-- before its next event process p pauses at most that often: not at all after a wait
abbrev pub PausesAtMost : Tables → (quota : ℕ) → List Event → (p pauses : ℕ) → Type 0
PausesAtMost t quota H p pauses = PausesAfter t quota p (talk_of H p) pauses ⊎ HasJustHalted H p

-- a history takes this many rounds of the queue: one for each event of a process, and one for each pause before it
pub data TakesRounds (t : Tables) (quota : ℕ) : List Event → ℕ → Type 0 where
  no_event : TakesRounds t quota [] 0
  of_process : {rounds : ℕ} (B : List Event) (e : Event) (p pauses : ℕ) → TakesRounds t quota B rounds
      → is_of p e ≡ true → PausesAtMost t quota B p pauses → TakesRounds t quota (B ++ e ∷ []) (rounds + (pauses + 1))
  of_nobody : {rounds : ℕ} (B : List Event) (e : Event) → TakesRounds t quota B rounds → is_of_process e ≡ false
      → TakesRounds t quota (B ++ e ∷ []) rounds
