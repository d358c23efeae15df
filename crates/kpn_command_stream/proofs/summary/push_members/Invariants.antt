-- What is written so far and the names that are still to come are the whole.
use Rattle.kpn_command_stream.proofs.Common.{◌≡◌, ◌++◌, drop, string_bytes, members_text}
use Rattle.kpn_command_stream.proofs.summary.push_members.Given as goal

abbrev pub invariant-loop-p : goal.invariant-loop-p
invariant-loop-p l =
    let names = l.document.names.instances in
    string_bytes l.text ++ members_text names (drop l.p-index l.members)
    ≡ string_bytes l.initial.text ++ members_text names l.members
