-- The words so far say formats.
use Rattle.kpn_command_stream.proofs.Common.{All, take, SaysFormat}
use Rattle.kpn_command_stream.proofs.formats.are_formats.Given as goal

abbrev pub invariant-loop-word : goal.invariant-loop-word
invariant-loop-word l = All (λ word. SaysFormat word.now) (take l.word-index l.words)
