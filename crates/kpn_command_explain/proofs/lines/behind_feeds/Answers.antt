-- After no line feed the place is reached.
use Rattle.kpn_command_explain.proofs.Common.{◌≡◌, ℕ, List, [], ◌∷◌, drop, refl, sym, subst, arith, rules, behind_feeds}
use Rattle.kpn_command_explain.proofs.lines.behind_feeds.Goals as goal

at_once : (text : List ℕ) → behind_feeds 0 text ≡ 0
at_once [] = refl
at_once (b ∷ bs) = refl

no_more : (left : ℕ) (text : List ℕ) → left ≡ 0 → behind_feeds left text ≡ 0
no_more left text none = subst (λ n. behind_feeds n text ≡ 0) (sym none) (at_once text)

pub returns-then-left-eq0 : goal.returns-then-left-eq0
returns-then-left-eq0 c =
    let none : c.loop-at.left ≡ 0 = search rules in
    let done = no_more c.loop-at.left (drop c.loop-at.at c.args.text.now) none in
    omega (arith, done, c.loop-at.invariant)
