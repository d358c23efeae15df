-- The frame where a process stands after a history.
use Rattle.std.specs.Prelude.{◌≡◌, ◌≢◌, ℕ, ◌≤◌, true, false, List, [], ◌∷◌}
use Rattle.kpn_lang.specs.Syntax.{Statement}
use Rattle.kpn_net.specs.Tables.{Tables, instance_at, program_of}
use Rattle.kpn_step.specs.declared.stop.Stop.{Stop}
use Rattle.kpn_step.specs.declared.stop.Stop.TheVariants.{Paused}
use Rattle.kpn_step.specs.Frame.{Frame, start_frame}
use Rattle.kpn_step.specs.Step.{Goes, step_of, Steps}
use Rattle.kpn_step.specs.Stops.{StandsAt, IsBetween}
use Rattle.kpn_history.specs.declared.event.Event.{Event}
use Rattle.kpn_history.specs.Talks.{is_of}
use Rattle.kpn_machine.specs.Changes.{IsFrameAfter}

-- this many steps lead from the one frame to the other, and no further step can be made there: it stands at a stop
pub record ComesToStop (blocks : List (List Statement)) (steps : ℕ) (before there : Frame) : Type 0 where
  pub reached : Steps blocks steps before there
  pub stop : Stop
  pub stands : StandsAt blocks there stop
  pub is_no_pause : stop ≢ Paused
  pub ends : (next : Frame) → step_of blocks there ≢ Goes next

-- from a frame a stop is reached within the steps that are allowed. Where all of them were made, a next step that would
-- fault is no stop any more, since that step is not allowed
pub record StopsWithin (blocks : List (List Statement)) (quota : ℕ) (before : Frame) : Type 0 where
  pub steps : ℕ
  pub most : steps ≤ quota
  pub there : Frame
  pub comes : ComesToStop blocks steps before there
  pub allowed : steps ≡ quota → ¬ IsBetween (step_of blocks there)

-- process p makes an event: steps lead from its frame to where it stops, and a get or a put takes it past that
pub record MakesEvent (t : Tables) (p : ℕ) (event : Event) (before after : Frame) : Type 0 where
  pub steps : ℕ
  pub there : Frame
  pub comes : ComesToStop (program_of t p).blocks steps before there
  pub passes : IsFrameAfter t event p there after

-- where process p goes by an event: it makes one of its own, and any other leaves it where it stands
pub record GoesBy (t : Tables) (p : ℕ) (event : Event) (before after : Frame) : Type 0 where
  pub own : is_of p event ≡ true → MakesEvent t p event before after
  pub other : is_of p event ≡ false → after ≡ before

-- these events take process p from the one frame to the other
abbrev pub ComesBy : Tables → (p : ℕ) → List Event → (before after : Frame) → Type 0
ComesBy t p [] before after = after ≡ before
ComesBy t p (event ∷ H) before after = (next : Frame) × GoesBy t p event before next × ComesBy t p H next after

-- a history takes process p from its start to this frame
abbrev pub IsPlaceAfter : Tables → List Event → (p : ℕ) → Frame → Type 0
IsPlaceAfter t H p place = ComesBy t p H (start_frame (program_of t p) (instance_at t p).pars) place
