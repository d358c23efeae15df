-- What is written so far and the lines that are still to come are the whole.
use Rattle.kpn_command_stream.proofs.Common.{◌≡◌, ◌++◌, drop, string_bytes, rings_text}
use Rattle.kpn_command_stream.proofs.summary.push_rings.Given as goal

abbrev pub invariant-loop-members : goal.invariant-loop-members
invariant-loop-members l =
    let names = l.document.names.instances in
    string_bytes l.text ++ rings_text names (drop l.members-index l.rings)
    ≡ string_bytes l.initial.text ++ rings_text names l.rings
