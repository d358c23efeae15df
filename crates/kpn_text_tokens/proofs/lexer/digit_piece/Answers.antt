-- A run of digits is made of digits, and a number is in range.
use Rattle.kpn_text_tokens.proofs.Common.{◌≤◌, sym, ◌∙◌, arith, MAX_NUMBER}
use Rattle.kpn_text_tokens.proofs.NumeralLaws.{numeral_small}
use Rattle.kpn_text_tokens.proofs.Pieces.{run_of_digits}
use Rattle.kpn_text_tokens.proofs.lexer.digit_piece.Goals as goal

pub number_piece-requires : goal.number_piece-requires
number_piece-requires c = rw c.run.ensures (run_of_digits c.args.text.now)

pub numbered-requires : goal.numbered-requires
numbered-requires c = λ v e.
    let small : v ≤ MAX_NUMBER = numeral_small c.run-word.result.now v (sym c.numeral_value.ensures ∙ e) in
    omega (arith, small)
