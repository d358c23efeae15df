-- What is written so far and the lines that are still to come are the whole text.
use Rattle.kpn_commands.proofs.Common.{◌≡◌, ◌++◌, drop, string_bytes, lines_from, list_line_of, rounds_text}
use Rattle.kpn_commands.proofs.rounds_text.text_of.Given as goal

abbrev pub invariant-loop-channel : goal.invariant-loop-channel
invariant-loop-channel l =
    let names = l.document.names.channels in
    string_bytes l.text ++ lines_from (list_line_of names) l.channel (drop l.channel l.lists) ≡ rounds_text names
    l.lists
