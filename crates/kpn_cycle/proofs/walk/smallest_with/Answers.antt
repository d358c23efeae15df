use Rattle.kpn_cycle.proofs.Common.{cap_in, smallest-push}
use Rattle.kpn_cycle.proofs.walk.smallest_with.Goals as goal

pub returns-in-Some-clause-smallest : goal.returns-in-Some-clause-smallest
returns-in-Some-clause-smallest c =
    rw (c.in-Full.is, c.in-Some.is)
    (λ channels met.
    smallest-push (cap_in c.args.caps.now) channels c.in-Some.c c.in-Full.d c.smaller.result met
    c.smaller.ensures.smallest)
