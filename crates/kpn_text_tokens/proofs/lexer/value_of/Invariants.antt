-- The value of the digits read so far.
use Rattle.kpn_text_tokens.proofs.Common.{◌≡◌, take, digits_value}
use Rattle.kpn_text_tokens.proofs.lexer.value_of.Given as goal

abbrev pub invariant-loop-digit : goal.invariant-loop-digit
invariant-loop-digit l = l.value ≡ digits_value 10 (take l.digit-index l.digits)
