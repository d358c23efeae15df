-- The steps so far lead to the frame at the place of the next code.
use Rattle.kpn_step.proofs.Walking.{Walking}
use Rattle.kpn_step.proofs.walk.walk.Given as goal

abbrev pub invariant-steps : goal.invariant-steps
invariant-steps l = Walking l.program l.quota l.initial.frame l.at l.left l.frame

abbrev pub decreases-steps : goal.decreases-steps
decreases-steps l = l.left
