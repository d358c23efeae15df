-- One get or put more.
use Rattle.kpn_ticks.proofs.Common.{refl, walked}
use Rattle.kpn_ticks.proofs.Course.{one_past}
use Rattle.kpn_ticks.proofs.walk.Walker.walk_back.Goals as goal

pub loop-i-preserved : goal.loop-i-preserved
loop-i-preserved c =
    one_past c.args.network.now (walked c.args.self.now) (walked c.loop-i.self) (walked c.step.new.self)
    c.args.moves.now c.loop-i.i _ _ c.loop-i-test.true refl c.loop-i.invariant c.step.ensures
