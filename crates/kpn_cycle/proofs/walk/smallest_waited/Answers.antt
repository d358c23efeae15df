use Rattle.kpn_cycle.proofs.Common.{◌≡◌, length, refl, arith, wait_at, cap_in}
use Rattle.kpn_cycle.proofs.Scans.{on_channel}
use Rattle.kpn_cycle.proofs.Walks.{met-more}
use Rattle.kpn_cycle.proofs.walk.smallest_waited.Goals as goal

pub loop-p-init : goal.loop-p-init
loop-p-init g c = record { met = refl; channel = tt }

pub loop-p-preserved : goal.loop-p-preserved
loop-p-preserved g c =
    record {
      met =
          met-more c.args.network.now c.args.waits.now (cap_in c.args.caps.now) c.loop-p.p c.loop-p.smallest
          c.smallest_with-smallest.result c.loop-p.invariant.met
          (rw c.get.ensures at c.smallest_with-smallest.ensures.smallest);
      channel = c.smallest_with-smallest.ensures.channel;
    }

pub smallest_with-smallest-requires-clause-wait : goal.smallest_with-smallest-requires-clause-wait
smallest_with-smallest-requires-clause-wait g c =
    let t = c.args.network.now in
    let below = c.instances-p-end.ensures in
    rw (c.get.ensures, c.requires.caps)
    (on_channel t c.known.ensures c.loop-p.p (wait_at c.args.waits.now c.loop-p.p)
    (c.requires.waits.own c.loop-p.p (omega arith)))
