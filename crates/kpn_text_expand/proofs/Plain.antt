-- Tokens without a short form stand for themselves.
use Rattle.std.proofs.Common.{◌≡◌, ℕ, ◌⊎◌, inl, inr, Bool, true, false, ◌-◌, if◌then◌else◌, List, [], ◌∷◌, ◌++◌, None, Ok, refl, sym, ap, ◌∙◌, append_assoc, append-nil}
use Rattle.kpn_text_expand.proofs.Common.{◌==◌, Language, Lexeme, Token, kinds, Constants, ConstantPlace, Constant, all_forms, expanded, without_forms, with_sums, IsPlain, ArePlain}
use Rattle.kpn_text_tokens.specs.declared.tokens.Keyword.TheVariants as keyword
use Rattle.kpn_text_tokens.specs.declared.tokens.Language.TheVariants as language
use Rattle.kpn_text_tokens.specs.declared.tokens.Mark.TheVariants as mark
use Rattle.kpn_text_tokens.specs.declared.tokens.Token.TheVariants as token
use Rattle.kpn_text_tokens.specs.Results.{and_then}
use Rattle.kpn_text_expand.specs.declared.constants.ConstantPlace.TheVariants as place
use Rattle.kpn_text_expand.specs.Constants.{at_first, gone_past, meant, meant_as, token_passed, step_at, step, steps, value_in, value_of, own_or_shared, finished, finished_at, without_constants}
use Rattle.kpn_text_expand.specs.Cells.{with_cells}
use Rattle.kpn_text_expand.specs.Loops.{with_loops}
use Rattle.kpn_text_expand.specs.Results.{each}
use Rattle.kpn_text_expand.proofs.PlainCapacities.{capacities_kept}
use Rattle.kpn_text_expand.proofs.PlainCells.{cells_kept}
use Rattle.kpn_text_expand.proofs.PlainLoops.{loops_kept}
use Rattle.kpn_text_expand.proofs.PlainSums.{sums_kept}

-- not in a declaration
abbrev IsOutside : ConstantPlace → Type 0
IsOutside p = (p ≡ place.Front) ⊎ (p ≡ place.Inside)

-- no constant has been declared
record IsIdle (s : Constants) : Type 0 where
  shared : s.shared ≡ []
  own : s.own ≡ []
  outside : IsOutside s.place

step_passes : (p : ConstantPlace) (t : Token) (l : Lexeme) (s : Constants) (ts : List Token) → IsOutside p → IsPlain t ts
    → step_at p t l s ≡ Ok (token_passed l s)
step_passes place.Front (token.Name x) l s ts out is = refl
step_passes place.Front (token.Number n) l s ts out is = refl
step_passes place.Front (token.Mark m) l s ts out is = refl
step_passes place.Front (token.Keyword keyword.Const) l s ts out is = absurd cc
step_passes place.Front (token.Keyword _) l s ts out is = refl
step_passes place.Inside t l s ts out is = refl
step_passes place.Declaration t l s ts (inl e) is = absurd cc
step_passes place.Declaration t l s ts (inr e) is = absurd cc

value_of_none : (t : Token) (s : Constants) → IsIdle s → value_of s t ≡ None
value_of_none (token.Name x) s idle =
    ap (λ (cs : List Constant). own_or_shared (value_in cs x) (value_in s.shared x)) idle.own
    ∙ ap (λ (cs : List Constant). value_in cs x) idle.shared
value_of_none (token.Number n) s idle = refl
value_of_none (token.Mark m) s idle = refl
value_of_none (token.Keyword k) s idle = refl

none_or : (b : Bool) (cs : List Constant) → cs ≡ [] → (if b then [] else cs) ≡ []
none_or true cs e = refl
none_or false cs e = e

-- a token takes what has gone by on, and declares nothing
behind_left : (t : Token) (s : Constants) → (gone_past t s).left ≡ s.left
behind_left (token.Name x) s = refl
behind_left (token.Number n) s = refl
behind_left (token.Mark mark.LeftBrace) s = refl
behind_left (token.Mark _) s = refl
behind_left (token.Keyword k) s = refl

behind_idle : (t : Token) (s : Constants) → s.shared ≡ [] → s.own ≡ [] → IsIdle (gone_past t s)
behind_idle (token.Name x) s shared own = record { shared = shared; own = own; outside = inr refl }
behind_idle (token.Number n) s shared own = record { shared = shared; own = own; outside = inr refl }
behind_idle (token.Mark mark.LeftBrace) s shared own = record { shared = shared; own = own; outside = inl refl }
behind_idle (token.Mark mark.RightBrace) s shared own =
    record { shared = shared; own = none_or (s.depth - 1 == 0) s.own own; outside = inl refl }
behind_idle (token.Mark mark.Semicolon) s shared own = record { shared = shared; own = own; outside = inl refl }
behind_idle (token.Mark _) s shared own = record { shared = shared; own = own; outside = inr refl }
behind_idle (token.Keyword k) s shared own = record { shared = shared; own = own; outside = inr refl }

-- what is left behind tokens that declare nothing
record Leaves (s : Constants) (ls : List Lexeme) : Type 0 where
  after : Constants
  is : steps s ls ≡ Ok after
  left : after.left ≡ s.left ++ ls
  idle : IsIdle after

leaves : (ls : List Lexeme) (s : Constants) → IsIdle s → ArePlain (kinds ls) → Leaves s ls
unfolding each and_then
leaves [] s idle are = record { after = s; is = refl; left = sym (append-nil s.left); idle = idle }
leaves (l ∷ ls) s idle are =
    let t : Constants = token_passed l s in
    let one : step s l ≡ Ok t = step_passes s.place l.token l s (kinds ls) idle.outside are.0 in
    let same : meant s l ≡ l ∷ [] = ap (meant_as l) (value_of_none l.token s idle) in
    let left : t.left ≡ s.left ++ l ∷ [] =
    behind_left l.token (record s { left = s.left ++ meant s l }) ∙ ap (λ m. s.left ++ m) same in
    let rest = leaves ls t (behind_idle l.token (record s { left = s.left ++ meant s l }) idle.shared idle.own) are.1 in
    record {
      after = rest.after;
      is = ap (λ r. and_then r (λ u. steps u ls)) one ∙ rest.is;
      left = rest.left ∙ ap (λ m. m ++ ls) left ∙ append_assoc s.left (l ∷ []) ls;
      idle = rest.idle;
    }

finished_outside : (p : ConstantPlace) (end : ℕ) (s : Constants) → IsOutside p → finished_at p end s ≡ Ok s.left
finished_outside place.Front end s out = refl
finished_outside place.Inside end s out = refl
finished_outside place.Declaration end s (inl e) = absurd cc
finished_outside place.Declaration end s (inr e) = absurd cc

-- no constant is declared
constants_kept : (end : ℕ) (ls : List Lexeme) → ArePlain (kinds ls) → without_constants end ls ≡ Ok ls
unfolding and_then
constants_kept end ls are =
    let all = leaves ls at_first (record { shared = refl; own = refl; outside = inr refl }) are in
    ap (λ r. and_then r (finished end)) all.is
    ∙ finished_outside all.after.place end all.after all.idle.outside
    ∙ ap Ok all.left

-- no other form is there
forms_kept : (ls : List Lexeme) → ArePlain (kinds ls) → without_forms ls ≡ ls
forms_kept ls are =
    ap (λ ms. with_loops (with_cells (with_sums ms))) (capacities_kept ls are)
    ∙ ap (λ ms. with_loops (with_cells ms)) (sums_kept ls are)
    ∙ ap with_loops (cells_kept ls are)
    ∙ loops_kept ls are

all_kept : (end : ℕ) (ls : List Lexeme) → ArePlain (kinds ls) → all_forms end ls ≡ Ok ls
unfolding and_then
all_kept end ls are =
    ap (λ r. and_then r (λ ms. Ok (without_forms ms))) (constants_kept end ls are) ∙ ap Ok (forms_kept ls are)

-- tokens without a short form stand for themselves
pub plain_kept : (l : Language) (end : ℕ) (ls : List Lexeme) → ArePlain (kinds ls) → expanded l end ls ≡ Ok ls
plain_kept language.One end ls are = refl
plain_kept language.Two end ls are = all_kept end ls are
