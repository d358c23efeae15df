-- The steps were made from a copy of the frame that is kept.
use Rattle.kpn_step.proofs.stepper.advance.Goals as goal

pub new-requires : goal.new-requires
new-requires c = rw c.copy-from.ensures c.run-steps.ensures.advance
