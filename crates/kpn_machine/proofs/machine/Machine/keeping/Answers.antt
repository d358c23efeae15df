use Rattle.kpn_machine.proofs.Common.{arith, ap, ◌∙◌, None, false, replicate, Nobody}
use Rattle.kpn_machine.proofs.Starting.{mirror_at_start, IsRun-start}
use Rattle.kpn_machine.proofs.machine.Machine.keeping.Goals as goal

pub invariant_of-result : goal.invariant_of-result
invariant_of-result g c =
    mirror_at_start c.args.keeping c.args.network.now c.in_ok-channels.channels.items c.in_ok-capacities.capacities.items
    c.in_ok-channels.ensures.len c.in_ok-capacities.ensures.len c.in_ok-channels.ensures.each
    c.in_ok-capacities.ensures.each

pub returns-clause-run : goal.returns-clause-run
returns-clause-run g c =
    IsRun-start c.args.keeping c.args.network.now c.known.ensures _ c.in_ok-channels.ensures.len c.in_ok-channels.ensures.each
    (c.in_ok-closed.ensures ∙ ap (λ n. replicate n false) c.channels.ensures)
    (c.in_ok-waits.ensures ∙ ap (λ n. replicate n Nobody) c.instances.ensures)
    (c.in_ok-ends.ensures ∙ ap (λ n. replicate n None) c.instances-2.ensures)
    c.in_ok-frames.ensures.len c.in_ok-frames.ensures.each

pub returns-clause-kept : goal.returns-clause-kept
returns-clause-kept g c k below =
    ap (λ x. x.is_kept) (c.in_ok-channels.ensures.each k (omega (arith, below, c.in_ok-channels.ensures.len)))
