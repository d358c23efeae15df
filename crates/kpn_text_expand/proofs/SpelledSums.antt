-- What assignments with an operator stand for can be spelled, if they can.
use Rattle.kpn_text_expand.proofs.Common.{ℕ, List, [], ◌∷◌, Option, Some, None, cond_both, Lexeme, Mark, Token, Sums, SumSpot}
use Rattle.kpn_text_tokens.specs.declared.tokens.Mark.TheVariants as mark
use Rattle.kpn_text_tokens.specs.declared.tokens.Token.TheVariants as token
use Rattle.kpn_text_expand.specs.declared.sums.SumSpot.TheVariants as spot
use Rattle.kpn_text_expand.specs.Sums.{aimed, at_first, changes, follows, token_kept, open_behind, value_opened, token_passed, spot_in_index, step, step_at, valued_by, with_mark, with_sums}
use Rattle.kpn_text_expand.proofs.Folds.{all_hold}
use Rattle.kpn_text_expand.proofs.Can.{CanBe, Spelled, both_spelled, mark_can}

record IsSound (s : Sums) : Type 0 where
  left : Spelled s.left
  target : Spelled s.target

marked_spelled : (ls : List Lexeme) (m : Mark) (at : ℕ) → Spelled ls → Spelled (with_mark m at ls)
marked_spelled ls m at all = both_spelled ls _ all (mark_can m, tt)

keeps : (l : Lexeme) (p : SumSpot) (s : Sums) → IsSound s → CanBe l.token → IsSound (token_kept l p s)
keeps l p s is can = record { left = both_spelled s.left (l ∷ []) is.left (can, tt); target = is.target }

aims : (l : Lexeme) (p : SumSpot) (s : Sums) → IsSound s → CanBe l.token → IsSound (aimed l p s)
aims l p s is can = record {
  left = both_spelled s.left (l ∷ []) is.left (can, tt);
  target = both_spelled s.target (l ∷ []) is.target (can, tt);
}

marks : (m : Mark) (at : ℕ) (s : Sums) → IsSound s → IsSound (record s { left = with_mark m at s.left })
marks m at s is = record { left = marked_spelled s.left m at is.left; target = is.target }

opens : (m : Mark) (at : ℕ) (s : Sums) → IsSound s → IsSound (value_opened m at s)
opens m at s is =
    let sign = marked_spelled s.left mark.Assign at is.left in
    let target = both_spelled (with_mark mark.Assign at s.left) s.target sign is.target in
    let all = marked_spelled _ m at target in
    record { left = marked_spelled _ mark.LeftParen at all; target = is.target }

values : (o : Option ℕ) (l : Lexeme) (s : Sums) → IsSound s → CanBe l.token → IsSound (valued_by o l s)
values (Some n) l s is can = keeps l (spot.Value n) s is can
values None l s is can =
    keeps l _ (record s { left = with_mark mark.RightParen l.start s.left }) (marks mark.RightParen l.start s is) can

takes : (p : SumSpot) (t : Token) (l : Lexeme) (s : Sums) → IsSound s → CanBe l.token → IsSound (step_at p t l s)
takes spot.Front (token.Name x) l s is can =
    aims l spot.Target (record s { target = [] }) (record { left = is.left; target = tt }) can
takes spot.Front (token.Number n) l s is can = keeps l _ s is can
takes spot.Front (token.Mark m) l s is can = keeps l _ s is can
takes spot.Front (token.Keyword k) l s is can = keeps l _ s is can
takes spot.Inside t l s is can = keeps l _ s is can
takes spot.Target (token.Mark mark.LeftBracket) l s is can = aims l (spot.Index 0) s is can
takes spot.Target (token.Mark m) l s is can =
    cond_both (changes m) (record s { spot = spot.Operator m l.start }) (token_passed l s) IsSound
    (λ e. record { left = is.left; target = is.target }) (λ e. keeps l _ s is can)
takes spot.Target (token.Name x) l s is can = keeps l _ s is can
takes spot.Target (token.Number n) l s is can = keeps l _ s is can
takes spot.Target (token.Keyword k) l s is can = keeps l _ s is can
takes (spot.Index n) t l s is can = aims l (spot_in_index t n) s is can
takes (spot.Operator m at) t l s is can =
    cond_both (follows m at l) (value_opened m at s) (token_passed l (record s { left = with_mark m at s.left })) IsSound
    (λ e. opens m at s is) (λ e. keeps l _ (record s { left = with_mark m at s.left }) (marks m at s is) can)
takes (spot.Value n) t l s is can = values (open_behind l.token n) l s is can

one : (s : Sums) (l : Lexeme) → IsSound s → CanBe l.token → IsSound (step s l)
one s l is can = takes s.spot l.token l s is can

pub sums_spelled : (ls : List Lexeme) → Spelled ls → Spelled (with_sums ls)
sums_spelled ls all = (all_hold step IsSound CanBe one at_first ls (record { left = tt; target = tt }) all).left
