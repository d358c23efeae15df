use Rattle.std.proofs.Common.{◌≡◌, ◌≤◌, IsSome}
use Rattle.kpn_pool_desk.specs.Gate.{LetsAll}
use Rattle.kpn_pool.proofs.working.work.Given as goal

abbrev pub invariant-loop : goal.invariant-loop
invariant-loop g l =
    (goal.iterator-loop g).can_next l.iterator' × (goal.iterator-loop g).is_finite l.iterator'
    × (l.worker.seat.number ≡ l.fn.seat.number) × (l.fn.seat.commits ≤ l.worker.seat.commits)
    × (IsSome l.region → LetsAll (g.G.Gate.may_answer l.gate))
