-- What is told of the sinks so far, if no output has failed.
use Rattle.kpn_command_stream.proofs.Common.{◌≡◌, [], None, take, ending_fault}
use Rattle.kpn_command_stream.proofs.concluding.ends_told.Given as goal

abbrev pub invariant-loop-end : goal.invariant-loop-end
invariant-loop-end l =
    ending_fault l.ending ≡ None → l.lost ≡ [] → l.ends.items ≡ take l.end-index l.over.sinks.items
