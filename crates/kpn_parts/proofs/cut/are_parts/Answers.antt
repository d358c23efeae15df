use Rattle.std.proofs.Common.{rules}
use Rattle.kpn_parts.proofs.Cuts.{part_there, parts_next}
use Rattle.kpn_parts.proofs.cut.are_parts.Goals as goal

pub loop-r-preserved : goal.loop-r-preserved
loop-r-preserved c =
    parts_next c.args.whole.now c.args.parts.now c.loop-r.r c.index-parts-r.result
    (part_there c.args.parts.now c.loop-r.r _ c.index-parts-r.result c.index-parts-r.is c.loop-r-test.true)
    (search rules) c.loop-r.invariant
