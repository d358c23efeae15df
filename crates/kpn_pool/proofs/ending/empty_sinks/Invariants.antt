use Rattle.kpn_pool.specs.Ending.{KeepsHeld}
use Rattle.kpn_pool.proofs.ending.empty_sinks.Given as goal

abbrev pub invariant-channels : goal.invariant-channels
invariant-channels l = KeepsHeld l.initial.book l.book
