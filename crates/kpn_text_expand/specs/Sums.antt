-- Assignments with an operator: `x += e;` becomes `x = x + (e);`, and `a[i] += e;` becomes `a[i] = a[i] + (e);`.
use Rattle.std.specs.Prelude.{ℕ, ◌-◌, ◌==◌, Bool, true, false, ◌&&◌, if◌then◌else◌, List, [], ◌∷◌, ◌++◌, length, Option, Some, None}
use Rattle.std.specs.List.{fold}
use Rattle.kpn_text_tokens.specs.declared.tokens.Lexeme.{Lexeme}
use Rattle.kpn_text_tokens.specs.declared.tokens.Mark.{Mark}
use Rattle.kpn_text_tokens.specs.declared.tokens.Mark.TheVariants as mark
use Rattle.kpn_text_tokens.specs.declared.tokens.Token.{Token}
use Rattle.kpn_text_tokens.specs.declared.tokens.Token.TheVariants as token
use Rattle.kpn_text_tokens.specs.Spelling.{mark_bytes}
use Rattle.kpn_text_expand.specs.declared.sums.Sums.{Sums}
use Rattle.kpn_text_expand.specs.declared.sums.SumSpot.{SumSpot}
use Rattle.kpn_text_expand.specs.declared.sums.SumSpot.TheVariants as spot
use Rattle.kpn_text_expand.specs.Constants.{one_brace_more, with_token}

-- `=` right after the mark makes an assignment of it
abbrev pub changes : Mark → Bool
changes mark.Plus = true
changes mark.Minus = true
changes mark.Star = true
changes mark.Slash = true
changes mark.Percent = true
changes mark.BitAnd = true
changes mark.BitOr = true
changes mark.BitXor = true
changes mark.ShiftLeft = true
changes mark.ShiftRight = true
changes _ = false

abbrev pub is_assign : Token → Bool
is_assign (token.Mark mark.Assign) = true
is_assign _ = false

-- `=` right after this mark at this byte
abbrev pub follows : Mark → (at : ℕ) → Lexeme → Bool
follows m at l = is_assign l.token && l.start - at == length (mark_bytes m)

-- where the token after one outside of targets and values stands
abbrev pub spot_behind : Token → SumSpot
spot_behind (token.Mark mark.Semicolon) = spot.Front
spot_behind (token.Mark mark.LeftBrace) = spot.Front
spot_behind (token.Mark mark.RightBrace) = spot.Front
spot_behind _ = spot.Inside

-- where the token after one of an index stands, in which this many brackets more are open
abbrev pub spot_in_index : Token → ℕ → SumSpot
spot_in_index (token.Mark mark.LeftBracket) n = spot.Index (one_brace_more n)
spot_in_index (token.Mark mark.RightBracket) n = if n == 0 then spot.Target else spot.Index (n - 1)
spot_in_index _ n = spot.Index n

-- How many parentheses are open after a token of a value, or nothing if it ends the value, as `;` does, and `)` and
-- `?` outside of them.
abbrev pub open_behind : Token → ℕ → Option ℕ
open_behind (token.Mark mark.Semicolon) n = None
open_behind (token.Mark mark.LeftParen) n = Some (one_brace_more n)
open_behind (token.Mark mark.RightParen) n = if n == 0 then None else Some (n - 1)
open_behind (token.Mark mark.Question) n = if n == 0 then None else Some n
open_behind _ n = Some n

-- before the first token
abbrev pub at_first : Sums
at_first = record { left = []; target = []; spot = spot.Inside }

-- a token that stays, after which the next one has this spot
abbrev pub token_kept : Lexeme → SumSpot → Sums → Sums
token_kept l p s = record s { left = s.left ++ l ∷ []; spot = p }

abbrev pub token_passed : Lexeme → Sums → Sums
token_passed l s = token_kept l (spot_behind l.token) s

-- a token of a target
abbrev pub aimed : Lexeme → SumSpot → Sums → Sums
aimed l p s = token_kept l p (record s { target = s.target ++ l ∷ [] })

-- the name that a target begins with
abbrev pub begun : Lexeme → Sums → Sums
begun l s = aimed l spot.Target (record s { target = [] })

abbrev pub with_mark : Mark → ℕ → List Lexeme → List Lexeme
with_mark m at ls = with_token (token.Mark m) at ls

-- the operator with `=` after the target x: = x + (
abbrev pub value_opened : Mark → ℕ → Sums → Sums
value_opened m at s = record s {
  left = with_mark mark.LeftParen at (with_mark m at (with_mark mark.Assign at s.left ++ s.target));
  spot = spot.Value 0;
}

-- a token after an operator at this byte, which stands after a target
abbrev pub operator_kept : Mark → (at : ℕ) → Lexeme → Sums → Sums
operator_kept m at l s =
    if follows m at l then value_opened m at s else token_passed l (record s { left = with_mark m at s.left })

abbrev pub valued_by : Option ℕ → Lexeme → Sums → Sums
valued_by (Some n) l s = token_kept l (spot.Value n) s
valued_by None l s = token_passed l (record s { left = with_mark mark.RightParen l.start s.left })

-- a token of a value, or the first one after it, before which `)` goes
abbrev pub valued : ℕ → Lexeme → Sums → Sums
valued n l s = valued_by (open_behind l.token n) l s

-- a mark after a target
abbrev pub mark_kept : Mark → Lexeme → Sums → Sums
mark_kept m l s = if changes m then record s { spot = spot.Operator m l.start } else token_passed l s

abbrev pub step_at : SumSpot → Token → Lexeme → Sums → Sums
step_at spot.Front (token.Name x) l s = begun l s
step_at spot.Target (token.Mark mark.LeftBracket) l s = aimed l (spot.Index 0) s
step_at (spot.Index n) t l s = aimed l (spot_in_index t n) s
step_at spot.Target (token.Mark m) l s = mark_kept m l s
step_at (spot.Operator m at) _ l s = operator_kept m at l s
step_at (spot.Value n) _ l s = valued n l s
step_at _ _ l s = token_passed l s

abbrev pub step : Sums → Lexeme → Sums
step s l = step_at s.spot l.token l s

-- the tokens with plain assignments
abbrev pub with_sums : List Lexeme → List Lexeme
with_sums ls = (fold step at_first ls).left
