-- The bytes before the index are digits, and the number is theirs.
use Rattle.kpn_text_items.proofs.Common.{◌≡◌, take, AllDigits, digits_value}
use Rattle.kpn_text_items.proofs.item_line.short_number.Given as goal

abbrev pub invariant-loop-digit : goal.invariant-loop-digit
invariant-loop-digit l =
    AllDigits 10 (take l.digit-index l.digits) × (l.number ≡ digits_value 10 (take l.digit-index l.digits))
