-- A process stepped alone on whole lists: steps, and between them the items that it gets and puts.
use Rattle.std.specs.Prelude.{◌≡◌, ℕ, ◌+◌, ◌≤◌, nat_eq, ℤ, List, [], ◌∷◌, Some, slice_set}
use Rattle.kpn_lang.specs.declared.talk.Said.{Said}
use Rattle.kpn_lang.specs.declared.talk.Said.TheVariants.{Got, Put}
use Rattle.kpn_lang.specs.declared.talk.Ending.TheVariants as ending
use Rattle.kpn_lang.specs.Syntax.{Statement, Read}
use Rattle.kpn_lang.specs.Parts.{Parts}
use Rattle.kpn_lang.specs.Run.{Lists, list_at}
use Rattle.kpn_lang.specs.Alone.{CanSay, ComesTo, alone}
use Rattle.kpn_step.specs.declared.stop.Stop.TheVariants.{WantWrite}
use Rattle.kpn_step.specs.declared.stop.AloneStop.{AloneStop}
use Rattle.kpn_step.specs.declared.stop.AloneStop.TheVariants.{Done, Faulted, Starved, Paused}
use Rattle.kpn_step.specs.Frame.{Frame, passed, passed_with, start_frame}
use Rattle.kpn_step.specs.Step.{Stops, step_of, statement_due, Steps}
use Rattle.kpn_step.specs.Stops.{IsBetween, stop_at}
use Rattle.kpn_step.specs.Ended.{EndsAs}

-- a frame and the lists that remain, before and after one thing is said
abbrev pub Speaks : List (List Statement) → Frame → Lists → Said → Frame → Lists → Type 0
Speaks blocks f lists (Got port v) g rest =
    (variable : ℕ) × (items : List ℤ) × (statement_due blocks f ≡ Some (Read port variable))
    × (list_at lists port ≡ v ∷ items)
    × (g ≡ passed_with f variable v) × (rest ≡ slice_set lists port items)
Speaks blocks f lists (Put port v) g rest =
    (step_of blocks f ≡ Stops (WantWrite port v)) × (g ≡ passed f) × (rest ≡ lists)

-- these steps, which say this, lead from the first frame and lists to the second
abbrev pub Walks : List (List Statement) → ℕ → Frame → Lists → List Said → Frame → Lists → Type 0
Walks blocks k f lists [] g rest = Steps blocks k f g × (rest ≡ lists)
Walks blocks k f lists (said ∷ talk) g rest =
    (i j : ℕ) × (h after : Frame) × (remaining : Lists) × (k ≡ i + j) × Steps blocks i f h
    × Speaks blocks h lists said after remaining × Walks blocks j after remaining talk g rest

-- what a process alone comes to after its talk; if it was paused, it can say the talk, it would go on with a step, and
-- the quota is used up
abbrev pub IsAloneOutcome : Parts → List ℤ → Lists → (used_up : Type 0) → Frame → List Said → AloneStop → Type 0
IsAloneOutcome parts pars lists used_up to talk Done = ComesTo (alone parts pars) lists ending.Done talk
IsAloneOutcome parts pars lists used_up to talk (Faulted fault) =
    ComesTo (alone parts pars) lists (ending.Faulted fault) talk
IsAloneOutcome parts pars lists used_up to talk (Starved port) =
    ComesTo (alone parts pars) lists (ending.Starved port) talk
IsAloneOutcome parts pars lists used_up to talk Paused =
    CanSay (alone parts pars) lists talk × IsBetween (step_of parts.blocks to) × used_up

-- a program stepped alone from its start: it makes no more steps than the quota and says this in them. It ends as the
-- stop after exactly these steps says, which is a pause only if they are the quota and it is between two of them. So
-- the program comes to that end by itself
pub record AloneGives (parts : Parts) (pars : List ℤ) (lists : Lists) (quota : ℕ) (talk : List Said)
    (stop : AloneStop) : Type 0 where
  pub steps : ℕ
  pub most : steps ≤ quota
  pub to : Frame
  pub rest : Lists
  pub walk : Walks parts.blocks steps (start_frame parts pars) lists talk to rest
  pub ended : EndsAs (stop_at (step_of parts.blocks to) (nat_eq steps quota)) rest stop
  pub outcome : IsAloneOutcome parts pars lists (steps ≡ quota) to talk stop
