use Rattle.kpn_ticks.proofs.Common.{◌≡◌, take, course_of, logged}
use Rattle.kpn_ticks.proofs.moves.Log.of.Given as goal

abbrev pub invariant-loop-k : goal.invariant-loop-k
invariant-loop-k l = logged l.log ≡ course_of l.network (take l.k l.events)
