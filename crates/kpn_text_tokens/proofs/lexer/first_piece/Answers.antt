-- What is found is within the text.
use Rattle.kpn_text_tokens.proofs.Common.{rules, ◌≡◌, true, refl, is_ascii_digit, slice_index, quoted_value}
use Rattle.kpn_text_tokens.proofs.Pieces.{digit_takes, mark_takes, quote_fits}
use Rattle.kpn_text_tokens.proofs.lexer.first_piece.Goals as goal

pub returns-then-is_ascii_digit-clause-within : goal.returns-then-is_ascii_digit-clause-within
returns-then-is_ascii_digit-clause-within c =
    let first : is_ascii_digit (slice_index c.args.text.now 0) ≡ true = search rules in
    rw c.digit_piece.ensures (digit_takes c.args.language c.args.text.now first)

pub returns-then-begins_quote-clause-within : goal.returns-then-begins_quote-clause-within
returns-then-begins_quote-clause-within c =
    rw c.quoted_piece.ensures (quote_fits c.args.text.now (quoted_value c.args.text.now) refl)

pub returns-else-begins_quote-clause-within : goal.returns-else-begins_quote-clause-within
returns-else-begins_quote-clause-within c = rw c.mark_piece.ensures (mark_takes c.args.language c.args.text.now)
