-- The lexemes found so far, and then those of the rest, are those of the whole text.
use Rattle.kpn_text_tokens.proofs.Common.{◌≡◌, ◌+◌, length, scan}
use Rattle.kpn_text_tokens.proofs.Scanning.{with_front}
use Rattle.kpn_text_tokens.proofs.lexer.lexemes.Given as goal

abbrev pub invariant-loop-rest : goal.invariant-loop-rest
invariant-loop-rest l = record {
  whole : with_front l.found.items (scan l.language 0 l.start l.rest) ≡ scan l.language 0 0 l.text;
  place : l.start + length l.rest ≡ length l.text;
}

abbrev pub decreases-loop-rest : goal.decreases-loop-rest
decreases-loop-rest l = length l.rest
