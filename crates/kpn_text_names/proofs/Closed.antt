-- An expression over no names has none.
use Rattle.kpn_text_names.proofs.Common.{◌≡◌, Bool, true, false, ◌&&◌, Ok, refl, subst, Term, Neg, Not, BitNot, Bin, Choice, names_below, ExpressionNode, numeral, variable, element, minus, negation, complement, binary, conditional}
use Rattle.kpn_text_tokens.specs.Results.{and_then}
use Rattle.kpn_text_names.specs.Body.{term_in}
use Rattle.kpn_text_names.specs.Constant.{nothing_known}
use Rattle.kpn_text_names.proofs.Chains.{ok_is, went}

abbrev IsClosedTerm : Term → Type 0
IsClosedTerm t = names_below 0 t ≡ true

both : (a b : Bool) → a ≡ true → b ≡ true → (a && b) ≡ true
both true true e f = refl
both true false e f = absurd cc
both false b e f = absurd cc

pub closed : (e : ExpressionNode) (t : Term) → term_in nothing_known e ≡ Ok t → IsClosedTerm t
unfolding term_in and_then
closed (numeral n) t h = subst IsClosedTerm (ok_is _ t h) refl
closed (variable x) t h = absurd cc
closed (element x e) t h = absurd cc
closed (minus e) t h =
    let a = went (term_in nothing_known e) (λ a. Ok (Neg a)) t h in
    subst IsClosedTerm (ok_is (Neg a.value) t a.rest) (closed e a.value a.first)
closed (negation e) t h =
    let a = went (term_in nothing_known e) (λ a. Ok (Not a)) t h in
    subst IsClosedTerm (ok_is (Not a.value) t a.rest) (closed e a.value a.first)
closed (complement e) t h =
    let a = went (term_in nothing_known e) (λ a. Ok (BitNot a)) t h in
    subst IsClosedTerm (ok_is (BitNot a.value) t a.rest) (closed e a.value a.first)
closed (binary o e f) t h =
    let a = went (term_in nothing_known e) (λ a. and_then (term_in nothing_known f) (λ b. Ok (Bin o a b))) t h in
    let b = went (term_in nothing_known f) (λ b. Ok (Bin o a.value b)) t a.rest in
    subst IsClosedTerm (ok_is (Bin o a.value b.value) t b.rest)
    (both (names_below 0 a.value) (names_below 0 b.value) (closed e a.value a.first) (closed f b.value b.first))
closed (conditional e f g) t h =
    let a = went (term_in nothing_known e)
    (λ a. and_then (term_in nothing_known f) (λ b. and_then (term_in nothing_known g) (λ c. Ok (Choice a b c)))) t h in
    let b = went (term_in nothing_known f) (λ b. and_then (term_in nothing_known g) (λ c. Ok (Choice a.value b c)))
    t a.rest in
    let c = went (term_in nothing_known g) (λ c. Ok (Choice a.value b.value c)) t b.rest in
    subst IsClosedTerm (ok_is (Choice a.value b.value c.value) t c.rest)
    (both (names_below 0 a.value && names_below 0 b.value) (names_below 0 c.value)
    (both (names_below 0 a.value) (names_below 0 b.value) (closed e a.value a.first) (closed f b.value b.first))
    (closed g c.value c.first))
