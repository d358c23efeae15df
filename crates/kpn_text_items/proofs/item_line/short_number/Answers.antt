-- The loop has read the digits up to its index; a byte that is no digit makes the whole no numeral.
use Rattle.std.proofs.Common.{get_or, sym, arith}
use Rattle.kpn_text_items.proofs.DigitLemmas.{digit-fails, AllDigits-at, digits_value-small, digits-step}
use Rattle.kpn_text_items.proofs.item_line.short_number.Goals as goal

pub returns-then-not-is_ascii_digit : goal.returns-then-not-is_ascii_digit
returns-then-not-is_ascii_digit c =
    λ numeral. digit-fails (get_or c.args.digits.now c.loop-digit.digit-index 0)
    (sym c.if-not-is_ascii_digit.ensures.value) (AllDigits-at c.args.digits.now c.loop-digit.digit-index numeral.0.1
    c.loop-digit-test.true)

pub overflow_mul-number : goal.overflow_mul-number
overflow_mul-number c =
    omega (
      arith,
      digits_value-small c.args.digits.now c.loop-digit.digit-index c.loop-digit-test.true (omega arith)
          c.loop-digit.invariant.0,
    )

pub overflow_add-number : goal.overflow_add-number
overflow_add-number c =
    omega (
      arith,
      digits_value-small c.args.digits.now c.loop-digit.digit-index c.loop-digit-test.true (omega arith)
          c.loop-digit.invariant.0,
      c.type_inv.digits c.loop-digit.digit-index,
    )

pub loop-digit-preserved : goal.loop-digit-preserved
loop-digit-preserved c =
    digits-step c.args.digits.now c.loop-digit.digit-index c.loop-digit.number c.from.result c.loop-digit-test.true
    c.loop-digit.invariant (sym c.if-not-is_ascii_digit.ensures.value) c.from.ensures
