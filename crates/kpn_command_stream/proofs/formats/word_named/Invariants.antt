-- The words so far do not name the end.
use Rattle.kpn_command_stream.proofs.Common.{◌≡◌, drop, map, first_that, named_format}
use Rattle.kpn_command_stream.proofs.formats.word_named.Given as goal

abbrev pub invariant-loop-word : goal.invariant-loop-word
invariant-loop-word l =
    first_that (λ word. named_format word l.name) (map (λ word. word.now) l.words)
    ≡ first_that (λ word. named_format word l.name) (map (λ word. word.now) (drop l.word-index l.words))
