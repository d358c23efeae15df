-- A frame is at one stop, except for pauses: what it says and how it ends if no list has anything left tells the stop.
use Rattle.kpn_machine.proofs.Common.{◌≡◌, ◌≢◌, List, [], ◌∷◌, refl, sym, ap, ◌∙◌, Ran, Said, Ending, Stop, WantRead, WantWrite, Done, Faulted, Paused, Frame, residual}
use Rattle.kpn_lang.specs.Syntax.{Statement}
use Rattle.kpn_lang.specs.declared.talk.Said.TheVariants.{Put}
use Rattle.kpn_lang.specs.declared.talk.Ending.TheVariants as ending
use Rattle.kpn_step.specs.Stops.{StandsAt}

-- the stop at which a frame was that said this on empty lists and ended so
abbrev pub stop_told : List Said → Ending → Stop
stop_told [] (ending.Starved port) = WantRead port
stop_told [] ending.Done = Done
stop_told [] (ending.Faulted fault) = Faulted fault
stop_told (Put port v ∷ talk) end = WantWrite port v
stop_told talk end = Paused

abbrev pub stop_ran : Ran → Stop
stop_ran ran = stop_told ran.talk ran.ending

module _ (blocks : List (List Statement)) (f : Frame) where
  stands_told : (stop : Stop) → StandsAt blocks f stop → stop ≢ Paused → stop_ran (residual blocks f 0 []) ≡ stop
  stands_told (WantRead port) stands some = ap stop_ran (stands.1.starved 0 [] refl)
  stands_told (WantWrite port v) stands some = ap stop_ran (stands.put 0 [])
  stands_told Done stands some = ap stop_ran (stands.ended 0 [])
  stands_told (Faulted fault) stands some = ap stop_ran (stands.faulted 0 [])
  stands_told Paused stands some = absurd (some refl)

  pub one_stop : (stop other : Stop) → StandsAt blocks f stop → StandsAt blocks f other → stop ≢ Paused
      → other ≢ Paused → stop ≡ other
  one_stop stop other a b first second = sym (stands_told stop a first) ∙ stands_told other b second
