-- None of the first processes has faulted.
use Rattle.kpn_command_stream.specs.Watching.{HaveNotFaulted}
use Rattle.kpn_command_stream.proofs.watching.has_faulted.Given as goal

abbrev pub invariant-loop-p : goal.invariant-loop-p
invariant-loop-p l = HaveNotFaulted l.p l.book
