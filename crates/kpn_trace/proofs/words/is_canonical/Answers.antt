-- No zero stands in front of other digits.
use Rattle.kpn_trace.proofs.Common.{◌≡◌, get_or, refl, sym, ap, ◌∙◌, subst, arith, IsTrue, ne_eqb, nat_tests, without_minus}
use Rattle.std.proofs.Math.Bool.{not}
use Rattle.kpn_trace.proofs.Padding.{canonical}
use Rattle.kpn_trace.proofs.words.is_canonical.Goals as goal

pub returns-then-digits_of-ne48 : goal.returns-then-digits_of-ne48
returns-then-digits_of-ne48 c = λ item spells.
    let is = c.if-digits_of-ne48.true in
    let same : get_or c.digits_of.result.now 0 0 ≡ get_or (without_minus c.args.word.now) 0 0 =
    ap (λ l. get_or l 0 0) c.digits_of.ensures in (
      λ passes. (canonical c.args.word.now item spells).0 (λ first. absurd (is (same ∙ first))),
      λ form. subst (λ b. IsTrue (not b)) (sym (ne_eqb (get_or c.digits_of.result.now 0 0) 48 is)) refl,
    )

pub returns-else-digits_of-ne48 : goal.returns-else-digits_of-ne48
returns-else-digits_of-ne48 c = λ item spells.
    let is = c.if-digits_of-ne48.false in
    let at : get_or (without_minus c.args.word.now) 0 0 ≡ 48 =
    ap (λ l. get_or l 0 0) (sym c.digits_of.ensures) ∙ grind (arith, nat_tests) in (
      λ one. (canonical c.args.word.now item spells).0 (λ _. grind (arith, nat_tests)),
      λ form. let one = (canonical c.args.word.now item spells).1 form at in grind (arith, nat_tests),
    )
