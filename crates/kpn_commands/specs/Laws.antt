-- What holds of each built-in process on each list of items.
use Rattle.std.specs.Prelude.{◌≢◌, ℕ, ◌+◌, ◌*◌, ◌<◌, ℤ, List, [], ◌∷◌, length}
use Rattle.kpn_lang.specs.declared.talk.Said.{Said}
use Rattle.kpn_step.specs.declared.stop.AloneStop.{AloneStop}
use Rattle.kpn_step.specs.declared.stop.AloneStop.TheVariants.{Paused}
use Rattle.kpn_step.specs.Walk.{AloneGives}
use Rattle.kpn_commands.specs.declared.built_in.BuiltIn.{BuiltIn}
use Rattle.kpn_commands.specs.BuiltIn.{built_in_program}
use Rattle.kpn_commands.specs.Plain.{TalksPlainly}

-- if it is not paused, it puts the plain values and stops in the plain way
abbrev pub PutsPlainly : Type 0
PutsPlainly =
    (process : BuiltIn) (items : List ℤ) (quota : ℕ) (talk : List Said) (stop : AloneStop)
    → AloneGives (built_in_program process) [] (items ∷ []) quota talk stop → stop ≢ Paused
    → TalksPlainly process items talk stop

-- three steps an item and one more never use up the quota
abbrev pub IsNeverPaused : Type 0
IsNeverPaused =
    (process : BuiltIn) (items : List ℤ) (quota : ℕ) (talk : List Said) (stop : AloneStop)
    → AloneGives (built_in_program process) [] (items ∷ []) quota talk stop → 3 * length items + 1 < quota
    → stop ≢ Paused
