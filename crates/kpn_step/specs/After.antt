-- A process after its talk: its frame, what it can say next and what it can come to (the process after a trace, as in
-- Hoare 1985).
use Rattle.std.specs.Prelude.{◌≡◌, ℕ, ℤ, List, [], ◌∷◌, ◌++◌, length}
use Rattle.kpn_lang.specs.declared.talk.Said.{Said}
use Rattle.kpn_lang.specs.declared.talk.Said.TheVariants.{Got, Put}
use Rattle.kpn_lang.specs.declared.talk.Ending.{Ending}
use Rattle.kpn_lang.specs.declared.talk.Ending.TheVariants as ending
use Rattle.kpn_lang.specs.Parts.{Parts}
use Rattle.kpn_lang.specs.Run.{Lists, list_at}
use Rattle.kpn_lang.specs.Alone.{Process, CanSay, ComesTo, alone, got_at}
use Rattle.kpn_step.specs.declared.stop.Stop.{Stop}
use Rattle.kpn_step.specs.declared.stop.Stop.TheVariants.{WantRead, WantWrite, Done, Faulted}
use Rattle.kpn_step.specs.Frame.{Frame}
use Rattle.kpn_step.specs.Residual.{residual}

-- after this talk on these lists the process can say and come to what the other can on the rest, and no more
pub record GoesOnAs (process : Process) (lists : Lists) (talk : List Said) (other : Process)
    (rest : Lists) : Type 0 where
  pub can : (more : List Said) → CanSay other rest more → CanSay process lists (talk ++ more)
  pub could : (more : List Said) → CanSay process lists (talk ++ more) → CanSay other rest more
  pub comes : (ending : Ending) (more : List Said) → ComesTo other rest ending more →
      ComesTo process lists ending (talk ++ more)
  pub came : (ending : Ending) (more : List Said) → ComesTo process lists ending (talk ++ more) →
      ComesTo other rest ending more

-- each list is the items that the talk got from it, followed by those that remain
pub record IsRestAfter (talk : List Said) (lists rest : Lists) : Type 0 where
  pub ports : length rest ≡ length lists
  pub each : (port : ℕ) → list_at lists port ≡ got_at talk port ++ list_at rest port

-- the frame of a program with these parameters after this talk: whatever items follow those that it got, the program
-- goes on as the frame's residual does on them
pub record IsAfter (parts : Parts) (pars : List ℤ) (talk : List Said) (f : Frame) : Type 0 where
  pub goes_on : (lists rest : Lists) → IsRestAfter talk lists rest →
      GoesOnAs (alone parts pars) lists talk (residual parts.blocks f) rest

-- what a process at a stop says next, if this remains of its lists
abbrev pub SaysNext : Stop → Lists → Said → Type 0
SaysNext (WantRead port) rest (Got i v) = (i ≡ port) × ((items : List ℤ) × (list_at rest port ≡ v ∷ items))
SaysNext (WantWrite port item) rest (Put o v) = (o ≡ port) × (v ≡ item)
SaysNext _ rest said = ⊥

-- how a process at a stop ends, if this remains of its lists
abbrev pub EndsThere : Stop → Lists → Ending → Type 0
EndsThere (WantRead port) rest (ending.Starved i) = (i ≡ port) × (list_at rest port ≡ [])
EndsThere Done rest ending.Done = Unit {0}
EndsThere (Faulted fault) rest (ending.Faulted other) = other ≡ fault
EndsThere _ rest ending = ⊥
