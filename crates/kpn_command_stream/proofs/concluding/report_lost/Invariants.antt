-- The first fault so far, and else the first of those to come. Nothing is told before it.
use Rattle.kpn_command_stream.proofs.Common.{◌≡◌, None, drop, first_status, lost_fault}
use Rattle.kpn_command_stream.proofs.concluding.report_lost.Given as goal

abbrev pub invariant-loop-one : goal.invariant-loop-one
invariant-loop-one g l = record {
  fault : first_status l.status (lost_fault (drop l.one-index l.lost)) ≡ lost_fault l.lost;
  silent : l.status ≡ None → l.err ≡ l.fn.err;
}
