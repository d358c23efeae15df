-- The digits that remain, behind the value so far, lead to the same as all of them.
use Rattle.kpn_text_tokens.proofs.Common.{◌≡◌, drop, digits_behind, digits_in}
use Rattle.kpn_text_tokens.proofs.numerals.digits_in.Given as goal

abbrev pub invariant-loop-digit : goal.invariant-loop-digit
invariant-loop-digit l =
    digits_behind l.base l.value (drop l.digit-index l.digits) ≡ digits_in l.base l.digits
