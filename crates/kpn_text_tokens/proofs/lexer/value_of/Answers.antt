-- A digit makes the value ten times the one before it and its own, and few digits fit.
use Rattle.std.proofs.Common.{arith}
use Rattle.kpn_text_tokens.proofs.Digits.{reads_digit}
use Rattle.kpn_text_tokens.proofs.lexer.value_of.Goals as goal

pub overflow_mul-value : goal.overflow_mul-value
overflow_mul-value c =
    let r = reads_digit c.args.digits.now c.loop-digit.digit-index c.requires.digits c.requires.few (omega arith) in
    omega (arith, r.more, r.small, c.loop-digit.invariant)

pub overflow_sub-digit : goal.overflow_sub-digit
overflow_sub-digit c =
    let r = reads_digit c.args.digits.now c.loop-digit.digit-index c.requires.digits c.requires.few (omega arith) in
    r.digit

pub overflow_add-value : goal.overflow_add-value
overflow_add-value c =
    let r = reads_digit c.args.digits.now c.loop-digit.digit-index c.requires.digits c.requires.few (omega arith) in
    omega (arith, r.more, r.small, c.loop-digit.invariant, c.from.ensures)

pub loop-digit-preserved : goal.loop-digit-preserved
loop-digit-preserved c =
    let r = reads_digit c.args.digits.now c.loop-digit.digit-index c.requires.digits c.requires.few (omega arith) in
    omega (arith, r.more, c.loop-digit.invariant, c.from.ensures)
