use Rattle.std.proofs.Common.{◌+◌, sym, subst, rules}
use Rattle.kpn_parts.proofs.Homes.{AreFirst, has_home, first_next}
use Rattle.kpn_parts.proofs.cut.homes_of.Goals as goal

pub returns-in_default-clause-none : goal.returns-in_default-clause-none
returns-in_default-clause-none c =
    λ is.
    let home = has_home c.args.whole.now c.known.ensures c.args.parts.now is c.loop-c.c (search rules) in
    c.in_default.ensures.none home.0 home.1

pub loop-c-preserved : goal.loop-c-preserved
loop-c-preserved c =
    subst (λ homes. AreFirst c.args.whole.now c.args.parts.now homes (c.loop-c.c + 1)) (sym c.in_ok-push.ensures.items)
    (first_next c.args.whole.now c.args.parts.now c.loop-c.homes.items c.loop-c.c c.in-Some.home c.loop-c.invariant
    c.in-Some.ensures.some)
