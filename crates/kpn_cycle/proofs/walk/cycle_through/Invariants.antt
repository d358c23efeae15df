use Rattle.kpn_cycle.proofs.Common.{◌<◌, length, IfSome, cap_in}
use Rattle.kpn_cycle.proofs.Walks.{Walked}
use Rattle.kpn_cycle.proofs.walk.cycle_through.Given as goal

abbrev pub invariant-loop-step : goal.invariant-loop-step
invariant-loop-step g l =
    record {
      process : l.at < length l.network.instances;
      walked : Walked l.network l.waits (cap_in l.caps) l.p l._step l.at l.smallest;
      channel : IfSome l.smallest (λ c. c < length l.caps);
    }
