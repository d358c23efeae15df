-- The earlier outputs so far are not of this name.
use Rattle.kpn_command_base.proofs.Common.{All, take, AreTwoOutputs}
use Rattle.kpn_command_base.proofs.outputs.is_any_output.Given as goal

abbrev pub invariant-loop-other : goal.invariant-loop-other
invariant-loop-other g l = All (λ other. AreTwoOutputs other.now l.name) (take l.other-index l.earlier)
