use Rattle.kpn_stream.specs.Streaming.{StepsWithinLimits}
use Rattle.kpn_stream.proofs.stepping.step_until.Given as goal

abbrev pub invariant-rows : goal.invariant-rows
invariant-rows l = StepsWithinLimits l.limits l.initial.book l.book
