-- The lines taken off so far are those of the events so far; each turn takes a line off the rest.
use Rattle.std.proofs.Common.{◌≡◌, ◌++◌, length, All}
use Rattle.kpn_trace.proofs.Common.{IsInRange, trace_text}
use Rattle.kpn_trace.proofs.reading.read_trace.Given as goal

abbrev pub invariant-loop-rest : goal.invariant-loop-rest
invariant-loop-rest g l = record {
  whole : l.bytes ≡ trace_text l.version l.policy l.growth l.events.items ++ l.rest;
  in_range : All (IsInRange l.version) l.events.items;
}

abbrev pub decreases-loop-rest : goal.decreases-loop-rest
decreases-loop-rest g l = length l.rest
