-- The process goes along its way: steps, then one thing said, or the end.
use Rattle.kpn_lang.specs.Lists.{remaining}
use Rattle.kpn_step.proofs.Places.{fits-steps}
use Rattle.kpn_step.proofs.Along.{Along-fits, Along-stands, Along-said, Along-ends, way_left-falls}
use Rattle.kpn_step.proofs.whole_lists.alone.Goals as goal

pub position-at-requires : goal.position-at-requires
position-at-requires c =
    Along-fits c.args.program.now c.known.ensures c.args.pars.now c.args.lists.now c.requires.pars c.args.quota
    c.says.unused c.says.talk c.says.frame c.says.taken.items c.says.invariant

pub walk-steps-requires-clause-fits : goal.walk-steps-requires-clause-fits
walk-steps-requires-clause-fits c =
    Along-fits c.args.program.now c.known.ensures c.args.pars.now c.args.lists.now c.requires.pars c.args.quota
    c.says.unused c.says.talk c.says.frame c.says.taken.items c.says.invariant

pub say-requires-clause-fits : goal.say-requires-clause-fits
say-requires-clause-fits c =
    let program = c.args.program.now in
    let fits = Along-fits program c.known.ensures c.args.pars.now c.args.lists.now c.requires.pars c.args.quota
    c.says.unused c.says.talk c.says.frame c.says.taken.items c.says.invariant in
    fits-steps program c.known.ensures c.walk-steps.result.0 c.says.frame c.walk-steps.new.frame fits
    c.walk-steps.ensures.stepped

pub say-requires-clause-stands : goal.say-requires-clause-stands
say-requires-clause-stands c =
    Along-stands c.args.program.now c.known.ensures c.args.pars.now c.args.lists.now c.requires.pars c.args.quota
    c.says.unused c.says.talk c.says.frame c.says.taken.items c.says.invariant
    c.walk-steps.result.0 c.walk-steps.result.1 c.walk-steps.new.frame c.walk-steps.ensures

pub says-smaller : goal.says-smaller
says-smaller c =
    let lists = c.args.lists.now in
    way_left-falls c.args.program.now.blocks c.says.unused c.walk-steps.result.0 c.says.frame c.walk-steps.new.frame
    c.say.new.frame
    (remaining lists c.says.taken.items) (remaining lists c.say.new.taken.items) c.in-Ok.said c.walk-steps.ensures.most
    c.walk-steps.ensures.stepped c.in-Ok.ensures.says

pub says-preserved : goal.says-preserved
says-preserved c =
    rw c.in_ok-push-in-Ok.ensures.items
    (Along-said c.args.program.now c.known.ensures c.args.pars.now c.args.lists.now c.requires.pars c.args.quota
    c.says.unused c.says.talk c.says.frame c.says.taken.items c.says.invariant
    c.walk-steps.result.0 c.walk-steps.result.1 c.walk-steps.new.frame c.walk-steps.ensures c.in-Ok.said
    c.say.new.frame c.say.new.taken.items c.in-Ok.ensures.says c.in-Ok.ensures.taken)

pub returns-in-Err : goal.returns-in-Err
returns-in-Err c =
    Along-ends c.args.program.now c.known.ensures c.args.pars.now c.args.lists.now c.requires.pars c.args.quota
    c.says.unused c.says.talk c.says.frame c.says.taken.items c.says.invariant
    c.walk-steps.result.0 c.walk-steps.result.1 c.walk-steps.new.frame c.walk-steps.ensures c.in-Err.stop
    c.in-Err.ensures.says
