-- What is written so far and the lines that are still to come are the whole; there are no more sinks than channels.
use Rattle.kpn_command_base.proofs.Common.{◌≡◌, ◌≤◌, ◌++◌, drop, string_bytes, sink_lines}
use Rattle.kpn_command_base.proofs.report_text.push_taken.Given as goal

abbrev pub invariant-loop-channel : goal.invariant-loop-channel
invariant-loop-channel l =
    let names = l.document.names.channels in
    let channels = l.document.tables.channels in
    record {
      few : l.sink ≤ l.channel;
      lines : string_bytes l.text ++ sink_lines names l.left_out l.wanted l.taken l.sink l.channel (drop l.channel channels)
          ≡ string_bytes l.initial.text ++ sink_lines names l.left_out l.wanted l.taken 0 0 channels;
    }
