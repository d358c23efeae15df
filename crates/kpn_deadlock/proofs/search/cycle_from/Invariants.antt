use Rattle.kpn_deadlock.proofs.Searching.{WalkedTo}
use Rattle.kpn_deadlock.proofs.search.cycle_from.Given as goal

abbrev pub invariant-loop-step : goal.invariant-loop-step
invariant-loop-step g l = WalkedTo l.network l.waits l.p l._step l.at l.members.items
