-- What is written so far and the lines that are still to come are the whole.
use Rattle.kpn_command_stream.proofs.Common.{◌≡◌, ◌++◌, drop, string_bytes, sink_ends_text}
use Rattle.kpn_command_stream.proofs.summary.push_sinks.Given as goal

abbrev pub invariant-loop-sink : goal.invariant-loop-sink
invariant-loop-sink l =
    let names = l.document.names.channels in
    string_bytes l.text ++ sink_ends_text names (drop l.sink-index l.sinks)
    ≡ string_bytes l.initial.text ++ sink_ends_text names l.sinks
