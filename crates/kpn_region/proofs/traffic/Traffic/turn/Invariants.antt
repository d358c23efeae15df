use Rattle.kpn_region.proofs.Common.{◌≡◌, ◌-◌, ◌≤◌, vec_capacity, MakesEvents}
use Rattle.kpn_region.proofs.traffic.Traffic.turn.Given as goal

abbrev pub invariant-events : goal.invariant-events
invariant-events g l = record {
  goes : MakesEvents l.network l.p l.made l.fn.frame l.fn.self.sides.items l.fn.self.events.items l.frame
      l.self.sides.items l.self.events.items;
  capacity : vec_capacity l.self.events ≡ vec_capacity l.fn.self.events;
  made : l.made ≤ l.most;
}

abbrev pub decreases-events : goal.decreases-events
decreases-events g l = l.most - l.made
