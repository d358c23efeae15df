-- The capacity of the channel in the machine is that of the history.
use Rattle.kpn_audit.proofs.Common.{ap, ◌∙◌, Grow, capacity_after, told_capacity}
use Rattle.kpn_audit.proofs.Telling.{has_room, same_capacity}
use Rattle.kpn_audit.proofs.stored.told.Goals as goal

pub told_capacity-requires-clause-room : goal.told_capacity-requires-clause-room
told_capacity-requires-clause-room g c =
    has_room c.args.network.now c.known.ensures c.requires.run.0 c.args.machine.now c.requires.run.1
    c.into.result

pub returns-in-Grow : goal.returns-in-Grow
returns-in-Grow g c H run =
    let t = c.args.network.now in
    let n = c.in-Grow.n in
    rw (c.in-One.is, c.in-Grow.is)
    (ap (λ m. Grow c.in-Grow.p c.in-Grow.c m)
    (c.told_capacity.ensures ∙ same_capacity t H c.args.machine.now run c.into.result n
    ∙ ap (λ x. told_capacity t (capacity_after t H x) x n) c.into.ensures))
