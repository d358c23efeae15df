-- The words so far that name no standard input.
use Rattle.kpn_command_stream.proofs.Common.{◌≡◌, not, take, filter, names_standard}
use Rattle.kpn_command_stream.proofs.command.files_of.Given as goal

abbrev pub invariant-loop-word : goal.invariant-loop-word
invariant-loop-word l =
    l.files.items ≡ filter (λ word. not (names_standard word.now)) (take l.word-index l.words)
