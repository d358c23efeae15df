use Rattle.std.proofs.Common.{◌<◌, length, sym, subst, rules}
use Rattle.kpn_parts.proofs.Carrying.{more_next}
use Rattle.kpn_parts.proofs.joining.carry.Goals as goal

pub loop-l-preserved : goal.loop-l-preserved
loop-l-preserved c =
    let below : c.loop-l.l < length c.args.links.now = search rules in
    let there : c.loop-l.l < length c.args.carried.now.items =
    subst (λ n. c.loop-l.l < n) (sym c.requires.links) below in
    more_next c.args.links.now c.args.placed c.args.carried.now.items c.loop-l.carried.items c.loop-l.l _
    c.index_mut-link.result.now _ c.loop-l.invariant below there c.index_mut-link.ensures.value c.take.new.carried
    c.in_ok-take.ensures
