-- Tokens without a capacity at the head of a network stay.
use Rattle.kpn_text_expand.proofs.Common.{◌≡◌, true, List, [], ◌∷◌, ◌++◌, refl, Lexeme, Token, kinds, Capacities, HeadSpot, ArePlain, IsPlain, capless}
use Rattle.kpn_text_tokens.specs.declared.tokens.Keyword.TheVariants as keyword
use Rattle.kpn_text_tokens.specs.declared.tokens.Mark.TheVariants as mark
use Rattle.kpn_text_tokens.specs.declared.tokens.Token.TheVariants as token
use Rattle.kpn_text_expand.specs.declared.capacities.HeadSpot.TheVariants as spot
use Rattle.kpn_text_expand.specs.Capacities.{at_first, token_kept, step, step_at, with_capacities}
use Rattle.kpn_text_expand.proofs.Folds.{all_seen}

-- no capacity has stood at the head
abbrev IsIdle : HeadSpot → Type 0
IsIdle spot.Elsewhere = Unit {0}
IsIdle spot.Opening = Unit {0}
IsIdle spot.Head = Unit {0}
IsIdle spot.Setting = Unit {0}
IsIdle _ = ⊥

record Fine (p : HeadSpot) (ts : List Token) : Type 0 where
  idle : IsIdle p
  none : capless p ts ≡ true

abbrev Goes : Capacities → List Lexeme → Type 0
Goes s ls = Fine s.spot (kinds ls) × ArePlain (kinds ls)

record Takes (s : Capacities) (l : Lexeme) (ts : List Token) (t : Capacities) : Type 0 where
  left : t.left ≡ s.left ++ l ∷ []
  fine : Fine t.spot ts

pub first_none : (ts : List Token) → capless spot.Elsewhere ts ≡ true
first_none [] = refl
first_none (t ∷ ts) = refl

elsewhere : (l : Lexeme) (s : Capacities) (ts : List Token) → Takes s l ts (token_kept l spot.Elsewhere s)
elsewhere l s ts = record { left = refl; fine = record { idle = tt; none = first_none ts } }

takes : (p : HeadSpot) (t : Token) (l : Lexeme) (s : Capacities) (ts : List Token) → Fine p (t ∷ ts) → IsPlain t ts
    → Takes s l ts (step_at p t l s)
takes spot.Elsewhere (token.Keyword keyword.Network) l s ts fine plain =
    record { left = refl; fine = record { idle = tt; none = plain } }
takes spot.Elsewhere (token.Keyword _) l s ts fine plain = elsewhere l s ts
takes spot.Elsewhere (token.Name x) l s ts fine plain = elsewhere l s ts
takes spot.Elsewhere (token.Number n) l s ts fine plain = elsewhere l s ts
takes spot.Elsewhere (token.Mark m) l s ts fine plain = elsewhere l s ts
takes spot.Opening (token.Mark mark.LeftBrace) l s ts fine plain =
    record { left = refl; fine = record { idle = tt; none = fine.none } }
takes spot.Opening (token.Mark _) l s ts fine plain = elsewhere l s ts
takes spot.Opening (token.Name x) l s ts fine plain = elsewhere l s ts
takes spot.Opening (token.Number n) l s ts fine plain = elsewhere l s ts
takes spot.Opening (token.Keyword k) l s ts fine plain = elsewhere l s ts
takes spot.Head (token.Keyword keyword.Cap) l s ts fine plain = absurd (let no = fine.none in cc)
takes spot.Head (token.Keyword keyword.Limit) l s ts fine plain =
    record { left = refl; fine = record { idle = tt; none = fine.none } }
takes spot.Head (token.Keyword keyword.Policy) l s ts fine plain =
    record { left = refl; fine = record { idle = tt; none = fine.none } }
takes spot.Head (token.Keyword keyword.Grow) l s ts fine plain =
    record { left = refl; fine = record { idle = tt; none = fine.none } }
takes spot.Head (token.Keyword _) l s ts fine plain = elsewhere l s ts
takes spot.Head (token.Mark _) l s ts fine plain = elsewhere l s ts
takes spot.Head (token.Name x) l s ts fine plain = elsewhere l s ts
takes spot.Head (token.Number n) l s ts fine plain = elsewhere l s ts
takes spot.Setting (token.Mark mark.Semicolon) l s ts fine plain =
    record { left = refl; fine = record { idle = tt; none = fine.none } }
takes spot.Setting (token.Mark _) l s ts fine plain =
    record { left = refl; fine = record { idle = tt; none = fine.none } }
takes spot.Setting (token.Name x) l s ts fine plain =
    record { left = refl; fine = record { idle = tt; none = fine.none } }
takes spot.Setting (token.Number n) l s ts fine plain =
    record { left = refl; fine = record { idle = tt; none = fine.none } }
takes spot.Setting (token.Keyword k) l s ts fine plain =
    record { left = refl; fine = record { idle = tt; none = fine.none } }
takes spot.Word t l s ts fine plain = absurd fine.idle
takes spot.Amount t l s ts fine plain = absurd fine.idle
takes spot.Entry t l s ts fine plain = absurd fine.idle
takes spot.Open t l s ts fine plain = absurd fine.idle

one : (s : Capacities) (l : Lexeme) (ls : List Lexeme) → Goes s (l ∷ ls)
    → ((step s l).left ≡ s.left ++ l ∷ []) × Goes (step s l) ls
one s l ls goes =
    let here = takes s.spot l.token l s (kinds ls) goes.0 goes.1.0 in
    (here.left, (here.fine, goes.1.1))

pub capacities_kept : (ls : List Lexeme) → ArePlain (kinds ls) → with_capacities ls ≡ ls
capacities_kept ls are =
    (all_seen step (λ s. s.left) Goes one at_first ls (record { idle = tt; none = first_none (kinds ls) }, are)).0
