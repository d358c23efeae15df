-- The words so far are each for one end.
use Rattle.kpn_command_stream.proofs.Common.{◌≡◌, drop, map, first_that, common_format}
use Rattle.kpn_command_stream.proofs.formats.common_word.Given as goal

abbrev pub invariant-loop-word : goal.invariant-loop-word
invariant-loop-word l =
    first_that common_format (map (λ word. word.now) l.words)
    ≡ first_that common_format (map (λ word. word.now) (drop l.word-index l.words))
