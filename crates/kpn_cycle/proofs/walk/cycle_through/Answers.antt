use Rattle.kpn_cycle.proofs.Common.{Some, sym, ap, ◌∙◌, arith, wait_at, awaited, cap_in, awaited_below}
use Rattle.kpn_cycle.proofs.Scans.{on_channel}
use Rattle.kpn_cycle.proofs.Walks.{walk-none, walk-more, walk-closed, walk-ended, walk-long}
use Rattle.kpn_cycle.proofs.walk.cycle_through.Goals as goal

pub loop-step-init : goal.loop-step-init
loop-step-init g c =
    record {
      process = c.requires.process;
      walked = walk-none c.args.network.now c.args.waits.now (cap_in c.args.caps.now) c.args.p;
      channel = tt;
    }

pub returns-in_default-clause-exact : goal.returns-in_default-clause-exact
returns-in_default-clause-exact g c =
    let t = c.args.network.now in
    let ended = ap (awaited t) (sym c.get-wait.ensures) ∙ sym c.in_default.ensures in
    walk-ended t c.args.waits.now (cap_in c.args.caps.now) c.args.p c.loop-step._step c.loop-step.at
    c.loop-step.smallest c.loop-step.invariant.walked ended

pub returns-then-next-p-clause-exact : goal.returns-then-next-p-clause-exact
returns-then-next-p-clause-exact g c =
    let t = c.args.network.now in
    let next = ap (awaited t) (sym c.get-wait.ensures) ∙ sym c.in-Some.ensures ∙ ap Some c.if-next-p.true in
    let found =
    walk-closed t c.args.waits.now (cap_in c.args.caps.now) c.args.p c.loop-step._step c.loop-step.at
    c.loop-step.smallest c.smallest_with-smallest.result c.loop-step.invariant.walked next
    (rw c.get-wait.ensures at c.smallest_with-smallest.ensures.smallest) in
    rw c.on_cycle.ensures found

pub loop-step-preserved : goal.loop-step-preserved
loop-step-preserved g c =
    let t = c.args.network.now in
    let next = ap (awaited t) (sym c.get-wait.ensures) ∙ sym c.in-Some.ensures in
    record {
      process = awaited_below t c.args.waits.now (wait_at c.args.waits.now c.loop-step.at) c.in-Some.next next;
      walked =
          walk-more t c.args.waits.now (cap_in c.args.caps.now) c.args.p c.loop-step._step c.loop-step.at
          c.in-Some.next c.loop-step.smallest c.smallest_with-smallest.result c.loop-step.invariant.walked next
          c.if-next-p.false (rw c.get-wait.ensures at c.smallest_with-smallest.ensures.smallest);
      channel = c.smallest_with-smallest.ensures.channel;
    }

pub returns-clause-exact : goal.returns-clause-exact
returns-clause-exact g c =
    walk-long c.args.network.now c.args.waits.now (cap_in c.args.caps.now) c.args.p c.loop-step._step c.loop-step.at
    c.loop-step.smallest c.loop-step.invariant.walked (omega arith)

pub smallest_with-smallest-requires-clause-wait : goal.smallest_with-smallest-requires-clause-wait
smallest_with-smallest-requires-clause-wait g c =
    let t = c.args.network.now in
    rw (c.get-wait.ensures, c.requires.caps)
    (on_channel t c.known.ensures c.loop-step.at (wait_at c.args.waits.now c.loop-step.at)
    (c.requires.waits.own c.loop-step.at c.loop-step.invariant.process))
