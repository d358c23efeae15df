-- The walk goes on by a code, or by a step of the frame, or stops there.
use Rattle.kpn_step.proofs.Common.{arith, subst, WentOrStopped}
use Rattle.kpn_step.proofs.Walking.{Walking-start, Walking-on, Walking-step, Walked-there, Walked-here, fits_here}
use Rattle.kpn_step.proofs.walk.walk.Goals as goal

pub steps-init : goal.steps-init
steps-init c =
    Walking-start c.args.program.now c.args.quota c.args.frame.now c.args.from c.requires.here c.requires.fits

pub step_by_tree-requires : goal.step_by_tree-requires
step_by_tree-requires c = c.steps.invariant.fits

pub follow-requires-clause-fits : goal.follow-requires-clause-fits
follow-requires-clause-fits c = c.steps.invariant.fits

pub steps-preserved-in-Ok : goal.steps-preserved-in-Ok
steps-preserved-in-Ok c =
    (Walking-step c.args.program.now c.known.ensures c.args.quota c.args.frame.now c.steps.at c.steps.left
    c.steps.frame c.step_by_tree.new.self c.in-Ok.next c.steps.invariant c.in-Ok.ensures).0

pub returns-in-Err : goal.returns-in-Err
returns-in-Err c =
    Walked-there c.args.program.now c.args.quota c.args.frame.now c.steps.at c.steps.left c.steps.frame
    c.step_by_tree.new.self c.in-Err.stop c.steps.invariant c.in-Err.ensures

pub steps-preserved : goal.steps-preserved
steps-preserved c =
    (Walking-on c.args.program.now c.known.ensures c.args.quota c.args.frame.now c.steps.at c.steps.left c.steps.frame
    c.follow.new.at c.follow.new.left c.follow.new.self c.steps.invariant
    (subst (λ stop. WentOrStopped c.args.program.now.blocks stop c.steps.at c.steps.left c.steps.frame c.follow.new.at
    c.follow.new.left c.follow.new.self) c.in_default.is c.follow.ensures)).0

pub stand-requires : goal.stand-requires
stand-requires c =
    fits_here c.args.program.now c.steps.at c.steps.left c.steps.frame c.follow.new.at c.follow.new.left
    c.follow.new.self c.in-Some.stop c.steps.invariant.fits c.in-Some.ensures

pub returns-in-Some : goal.returns-in-Some
returns-in-Some c =
    Walked-here c.args.program.now c.args.quota c.args.frame.now c.steps.at c.steps.left c.steps.frame
    c.follow.new.at c.follow.new.left c.follow.new.self c.stand.new.self c.in-Some.stop
    (omega (arith, c.if-left-lt-STEPS_OF_A_CODE.false)) c.steps.invariant c.in-Some.ensures c.stand.ensures
