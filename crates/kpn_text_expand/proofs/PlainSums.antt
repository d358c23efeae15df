-- Tokens without an assignment with an operator stay.
use Rattle.std.proofs.Common.{◌≡◌, ℕ, ◌-◌, Bool, true, false, if◌then◌else◌, List, [], ◌∷◌, ◌++◌, refl, sym, ap, ◌∙◌}
use Rattle.std.specs.Prelude.{◌==◌, ◌&&◌, not, length}
use Rattle.kpn_text_expand.proofs.Common.{fold, cond_both, Lexeme, Mark, Token, mark_bytes, kinds, Sums, SumSpot, lexeme, ArePlain, IsPlain, not_assigned}
use Rattle.kpn_text_tokens.specs.declared.tokens.Mark.TheVariants as mark
use Rattle.kpn_text_tokens.specs.declared.tokens.Token.TheVariants as token
use Rattle.kpn_text_expand.specs.declared.sums.SumSpot.TheVariants as spot
use Rattle.kpn_text_expand.specs.Sums.{at_first, changes, follows, is_assign, value_opened, token_passed, spot_behind, spot_in_index, step, step_at, with_mark, with_sums}
use Rattle.kpn_text_expand.proofs.Folds.{all_seen}

-- what is left, and an operator that waits for the token after it
abbrev seen_at : SumSpot → List Lexeme → List Lexeme
seen_at (spot.Operator m at) ls = with_mark m at ls
seen_at _ ls = ls

abbrev seen : Sums → List Lexeme
seen s = seen_at s.spot s.left

-- no value is open, and no `=` follows an operator
abbrev Fine : SumSpot → List Token → Type 0
Fine (spot.Value n) ts = ⊥
Fine (spot.Operator m at) ts = not_assigned ts ≡ true
Fine _ ts = Unit {0}

abbrev Goes : Sums → List Lexeme → Type 0
Goes s ls = Fine s.spot (kinds ls) × ArePlain (kinds ls)

-- a token has been added to these
abbrev Takes : List Lexeme → Lexeme → List Token → Sums → Type 0
Takes ls l ts s = (seen s ≡ ls ++ l ∷ []) × Fine s.spot ts

gone_past : (t : Token) (ls : List Lexeme) (ts : List Token)
    → (seen_at (spot_behind t) ls ≡ ls) × Fine (spot_behind t) ts
gone_past (token.Name x) ls ts = (refl, tt)
gone_past (token.Number n) ls ts = (refl, tt)
gone_past (token.Mark mark.Semicolon) ls ts = (refl, tt)
gone_past (token.Mark mark.LeftBrace) ls ts = (refl, tt)
gone_past (token.Mark mark.RightBrace) ls ts = (refl, tt)
gone_past (token.Mark _) ls ts = (refl, tt)
gone_past (token.Keyword k) ls ts = (refl, tt)

in_index : (t : Token) (n : ℕ) (ls : List Lexeme) (ts : List Token)
    → (seen_at (spot_in_index t n) ls ≡ ls) × Fine (spot_in_index t n) ts
in_index (token.Name x) n ls ts = (refl, tt)
in_index (token.Number k) n ls ts = (refl, tt)
in_index (token.Mark mark.LeftBracket) n ls ts = (refl, tt)
in_index (token.Mark mark.RightBracket) n ls ts =
    cond_both (n == 0) spot.Target (spot.Index (n - 1)) (λ (p : SumSpot). (seen_at p ls ≡ ls) × Fine p ts)
    (λ e. (refl, tt)) (λ e. (refl, tt))
in_index (token.Mark _) n ls ts = (refl, tt)
in_index (token.Keyword k) n ls ts = (refl, tt)

passed_takes : (l : Lexeme) (s : Sums) (ts : List Token) → Takes s.left l ts (token_passed l s)
passed_takes l s ts = gone_past l.token (s.left ++ l ∷ []) ts

then_plain : (b r : Bool) → b ≡ true → (if b then r else true) ≡ true → r ≡ true
then_plain true r e h = h
then_plain false r e h = absurd cc

follows_not : (m : Mark) (at : ℕ) (l : Lexeme) (b : Bool) → is_assign l.token ≡ b → not b ≡ true
    → follows m at l ≡ false
follows_not m at l true e h = absurd cc
follows_not m at l false e h = ap (λ c. c && (l.start - at == length (mark_bytes m))) e

operator_takes : (m : Mark) (at : ℕ) (l : Lexeme) (s : Sums) (ts : List Token) (b : Bool) → b ≡ false
    → Takes (with_mark m at s.left) l ts
    (if b then value_opened m at s else token_passed l (record s { left = with_mark m at s.left }))
operator_takes m at l s ts true e = absurd cc
operator_takes m at l s ts false e = passed_takes l (record s { left = with_mark m at s.left }) ts

mark_takes : (m : Mark) (l : Lexeme) (s : Sums) (ts : List Token) → l.token ≡ token.Mark m → IsPlain (token.Mark m) ts
    → Takes s.left l ts (if changes m then record s { spot = spot.Operator m l.start } else token_passed l s)
mark_takes m l s ts e plain =
    cond_both (changes m) (record s { spot = spot.Operator m l.start }) (token_passed l s) (λ (u : Sums). Takes s.left l ts u)
    (λ c. (
      ap (λ (t : Token). s.left ++ lexeme t l.start ∷ []) (sym e),
      then_plain (changes m) (not_assigned ts) c plain,
    ))
    (λ c. passed_takes l s ts)

takes : (p : SumSpot) (t : Token) (l : Lexeme) (s : Sums) (ts : List Token) → l.token ≡ t → Fine p (t ∷ ts)
    → IsPlain t ts → Takes (seen_at p s.left) l ts (step_at p t l s)
takes spot.Front (token.Name x) l s ts e fine plain = (refl, tt)
takes spot.Front (token.Number n) l s ts e fine plain = passed_takes l s ts
takes spot.Front (token.Mark m) l s ts e fine plain = passed_takes l s ts
takes spot.Front (token.Keyword k) l s ts e fine plain = passed_takes l s ts
takes spot.Inside t l s ts e fine plain = passed_takes l s ts
takes spot.Target (token.Mark mark.LeftBracket) l s ts e fine plain = (refl, tt)
takes spot.Target (token.Mark m) l s ts e fine plain = mark_takes m l s ts e plain
takes spot.Target (token.Name x) l s ts e fine plain = passed_takes l s ts
takes spot.Target (token.Number n) l s ts e fine plain = passed_takes l s ts
takes spot.Target (token.Keyword k) l s ts e fine plain = passed_takes l s ts
takes (spot.Index n) t l s ts e fine plain = in_index t n (s.left ++ l ∷ []) ts
takes (spot.Operator m at) t l s ts e fine plain =
    operator_takes m at l s ts (follows m at l) (follows_not m at l (is_assign t) (ap is_assign e) fine)
takes (spot.Value n) t l s ts e fine plain = absurd fine

one : (s : Sums) (l : Lexeme) (ls : List Lexeme) → Goes s (l ∷ ls)
    → (seen (step s l) ≡ seen s ++ l ∷ []) × Goes (step s l) ls
one s l ls goes =
    let here = takes s.spot l.token l s (kinds ls) refl goes.0 goes.1.0 in
    (here.0, (here.1, goes.1.1))

-- no operator waits after the last token
all_seen_at : (p : SumSpot) (ls : List Lexeme) → Fine p [] → seen_at p ls ≡ ls
all_seen_at spot.Front ls fine = refl
all_seen_at spot.Inside ls fine = refl
all_seen_at spot.Target ls fine = refl
all_seen_at (spot.Index n) ls fine = refl
all_seen_at (spot.Operator m at) ls fine = absurd cc
all_seen_at (spot.Value n) ls fine = absurd fine

pub sums_kept : (ls : List Lexeme) → ArePlain (kinds ls) → with_sums ls ≡ ls
sums_kept ls are =
    let all = all_seen step seen Goes one at_first ls (tt, are) in
    sym (all_seen_at (fold step at_first ls).spot (fold step at_first ls).left all.1.0) ∙ all.0
