-- Tokens without a loop over a range stay.
use Rattle.std.proofs.Common.{zero, suc, ◌-◌, length}
use Rattle.std.specs.Prelude.{slice_get}
use Rattle.kpn_text_expand.proofs.Common.{◌≡◌, ℕ, List, [], ◌∷◌, ◌++◌, take, Option, Some, None, refl, ap, AllByRecursion, Lexeme, Token, kinds, ArePlain, IsPlain}
use Rattle.kpn_text_tokens.specs.declared.tokens.Keyword.TheVariants as keyword
use Rattle.kpn_text_tokens.specs.declared.tokens.Mark.TheVariants as mark
use Rattle.kpn_text_tokens.specs.declared.tokens.Token.TheVariants as token
use Rattle.kpn_text_expand.specs.declared.loops.Loops.{Loops}
use Rattle.kpn_text_expand.specs.declared.loops.LoopSpot.{LoopSpot}
use Rattle.kpn_text_expand.specs.declared.loops.LoopSpot.TheVariants as spot
use Rattle.kpn_text_expand.specs.Loops.{blocks_around, at_first, counted_if, token_kept, name_if, name_said, passed_by, step, step_at, loop_variable, with_loops}
use Rattle.kpn_text_expand.proofs.Folds.{all_seen}

-- no loop is open
abbrev IsIdle : LoopSpot → Type 0
IsIdle spot.Front = Unit {0}
IsIdle spot.Inside = Unit {0}
IsIdle spot.Rest = Unit {0}
IsIdle _ = ⊥

abbrev IsBrace : Lexeme → Type 0
IsBrace l = name_said l.token ≡ None

record Fine (s : Loops) : Type 0 where
  idle : IsIdle s.spot
  braces : AllByRecursion IsBrace s.blocks

abbrev Goes : Loops → List Lexeme → Type 0
Goes s ls = Fine s × ArePlain (kinds ls)

record Takes (s : Loops) (l : Lexeme) (t : Loops) : Type 0 where
  left : t.left ≡ s.left ++ l ∷ []
  fine : Fine t

no_name : (bs : List Lexeme) (n : ℕ) → AllByRecursion IsBrace bs → name_if (slice_get bs n) ≡ None
no_name [] n all = refl
no_name (b ∷ bs) zero all = all.0
no_name (b ∷ bs) (suc n) all = no_name bs n all.1

fewer : (n : ℕ) (bs : List Lexeme) → AllByRecursion IsBrace bs → AllByRecursion IsBrace (take n bs)
fewer zero bs all = tt
fewer (suc n) [] all = tt
fewer (suc n) (b ∷ bs) all = (all.0, fewer n bs all.1)

more : (bs : List Lexeme) (l : Lexeme) → AllByRecursion IsBrace bs → IsBrace l → AllByRecursion IsBrace (bs ++ l ∷ [])
more [] l all is = (is, tt)
more (b ∷ bs) l all is = (all.0, more bs l all.1 is)

stays : (l : Lexeme) (p : LoopSpot) (s : Loops) → IsIdle p → Fine s → Takes s l (token_kept l p s)
stays l p s idle fine = record { left = refl; fine = record { idle = idle; braces = fine.braces } }

-- no loop ends at a `}`
ends : (o : Option (List ℕ)) (l : Lexeme) (s : Loops) → o ≡ None → Fine s
    → Takes s l (token_kept l spot.Front (counted_if o l.start (record s { blocks = blocks_around s.blocks })))
ends (Some x) l s e fine = absurd cc
ends None l s e fine =
    record { left = refl; fine = record { idle = tt; braces = fewer (length s.blocks - 1) s.blocks fine.braces } }

passes : (t : Token) (l : Lexeme) (s : Loops) → l.token ≡ t → Fine s → Takes s l (passed_by t l s)
passes (token.Mark mark.LeftBrace) l s e fine =
    record { left = refl; fine = record { idle = tt; braces = more s.blocks l fine.braces (ap name_said e) } }
passes (token.Mark mark.RightBrace) l s e fine =
    ends (loop_variable s.blocks) l s (no_name s.blocks (length s.blocks - 1) fine.braces) fine
passes (token.Mark mark.Semicolon) l s e fine = stays l spot.Front s tt fine
passes (token.Mark _) l s e fine = stays l spot.Inside s tt fine
passes (token.Keyword keyword.Network) l s e fine = stays l spot.Rest s tt fine
passes (token.Keyword _) l s e fine = stays l spot.Inside s tt fine
passes (token.Name x) l s e fine = stays l spot.Inside s tt fine
passes (token.Number n) l s e fine = stays l spot.Inside s tt fine

takes : (p : LoopSpot) (t : Token) (l : Lexeme) (s : Loops) (ts : List Token) → IsIdle p → Fine s → IsPlain t ts
    → Takes s l (step_at p t l s)
takes spot.Front (token.Keyword keyword.For) l s ts idle fine plain = absurd cc
takes spot.Front (token.Keyword _) l s ts idle fine plain = passes l.token l s refl fine
takes spot.Front (token.Name x) l s ts idle fine plain = passes l.token l s refl fine
takes spot.Front (token.Number n) l s ts idle fine plain = passes l.token l s refl fine
takes spot.Front (token.Mark m) l s ts idle fine plain = passes l.token l s refl fine
takes spot.Inside t l s ts idle fine plain = passes l.token l s refl fine
takes spot.Rest t l s ts idle fine plain = stays l spot.Rest s tt fine
takes spot.Word t l s ts idle fine plain = absurd idle
takes spot.Variable t l s ts idle fine plain = absurd idle
takes spot.First t l s ts idle fine plain = absurd idle
takes spot.End t l s ts idle fine plain = absurd idle

one : (s : Loops) (l : Lexeme) (ls : List Lexeme) → Goes s (l ∷ ls)
    → ((step s l).left ≡ s.left ++ l ∷ []) × Goes (step s l) ls
one s l ls goes =
    let here = takes s.spot l.token l s (kinds ls) goes.0.idle goes.0 goes.1.0 in
    (here.left, (here.fine, goes.1.1))

pub loops_kept : (ls : List Lexeme) → ArePlain (kinds ls) → with_loops ls ≡ ls
loops_kept ls are = (all_seen step (λ s. s.left) Goes one (at_first ls) ls (record { idle = tt; braces = tt }, are)).0
