-- Reads into a cell: `read p a[i];` becomes `read p item; a[i] = item;`, where `item` stands for a name that the text has
-- nowhere else.
use Rattle.std.specs.Prelude.{ℕ, ◌+◌, ◌-◌, ◌==◌, min, if◌then◌else◌, List, [], ◌∷◌, ◌++◌, Option, Some, None}
use Rattle.std.specs.List.{fold}
use Rattle.kpn_text_tokens.specs.declared.tokens.Keyword.TheVariants as keyword
use Rattle.kpn_text_tokens.specs.declared.tokens.Lexeme.{Lexeme}
use Rattle.kpn_text_tokens.specs.declared.tokens.Mark.TheVariants as mark
use Rattle.kpn_text_tokens.specs.declared.tokens.Token.{Token}
use Rattle.kpn_text_tokens.specs.declared.tokens.Token.TheVariants as token
use Rattle.kpn_text_grammar.specs.Syntax.{NameBytes}
use Rattle.kpn_text_expand.specs.declared.cells.Cells.{Cells}
use Rattle.kpn_text_expand.specs.declared.cells.CellSpot.{CellSpot}
use Rattle.kpn_text_expand.specs.declared.cells.CellSpot.TheVariants as spot
use Rattle.kpn_text_expand.specs.declared.hidden.Hidden.TheVariants as hidden
use Rattle.kpn_text_expand.specs.Constants.{one_brace_more, with_token}
use Rattle.kpn_text_expand.specs.Hidden.{hidden_name, most_taken}

-- before the first of these tokens
abbrev pub at_first : List Lexeme → Cells
at_first ls = record { left = []; target = []; taken = most_taken hidden.Item ls; spot = spot.Inside }

-- the name that keeps an item: longer than each one of the text
abbrev pub item_name : Cells → Option NameBytes
item_name s = hidden_name hidden.Item (min (s.taken + 1) 18446744073709551615)

-- where the token after one outside of a read stands
abbrev pub spot_behind : Token → CellSpot
spot_behind (token.Mark mark.Semicolon) = spot.Front
spot_behind (token.Mark mark.LeftBrace) = spot.Front
spot_behind (token.Mark mark.RightBrace) = spot.Front
spot_behind _ = spot.Inside

-- where the token after one of an index stands, in which this many brackets more are open
abbrev pub spot_in_index : Token → ℕ → CellSpot
spot_in_index (token.Mark mark.LeftBracket) n = spot.Index (one_brace_more n)
spot_in_index (token.Mark mark.RightBracket) n = if n == 0 then spot.Item else spot.Index (n - 1)
spot_in_index _ n = spot.Index n

-- a token that stays, after which the next one has this spot
abbrev pub token_kept : Lexeme → CellSpot → Cells → Cells
token_kept l p s = record s { left = s.left ++ l ∷ []; spot = p }

abbrev pub token_passed : Lexeme → Cells → Cells
token_passed l s = token_kept l (spot_behind l.token) s

-- a token that may not be there: the grammar refuses `for` at its byte
abbrev pub refused : Lexeme → Cells → Cells
refused l s = token_kept l spot.Inside (record s { left = with_token (token.Keyword keyword.For) l.start s.left })

-- the second name after `read`, which waits for the token after it
abbrev pub target_held : Lexeme → Cells → Cells
target_held l s = record s { target = l ∷ []; spot = spot.Target }

-- the target stays
abbrev pub target_kept : Cells → Cells
target_kept s = record s { left = s.left ++ s.target }

-- item ; a [
abbrev pub item_read_as : Option NameBytes → Lexeme → Cells → Cells
item_read_as (Some x) l s =
    token_kept l (spot.Index 0)
    (target_kept (record s {
      left = with_token (token.Mark mark.Semicolon) l.start (with_token (token.Name x) l.start s.left);
    }))
item_read_as None l s = refused l (target_kept s)

-- `[` after the target
abbrev pub item_read : Lexeme → Cells → Cells
item_read l s = item_read_as (item_name s) l s

-- = item ;
abbrev pub item_stored_as : Option NameBytes → Lexeme → Cells → Cells
item_stored_as (Some x) l s =
    token_kept l spot.Front
    (record s { left = with_token (token.Name x) l.start (with_token (token.Mark mark.Assign) l.start s.left) })
item_stored_as None l s = refused l s

-- `;` after the index
abbrev pub item_stored : Lexeme → Cells → Cells
item_stored l s = item_stored_as (item_name s) l s

abbrev pub step_at : CellSpot → Token → Lexeme → Cells → Cells
step_at spot.Front (token.Keyword keyword.Read) l s = token_kept l spot.Word s
step_at spot.Word (token.Name x) l s = token_kept l spot.Port s
step_at spot.Port (token.Name x) l s = target_held l s
step_at spot.Target (token.Mark mark.LeftBracket) l s = item_read l s
step_at spot.Target _ l s = token_passed l (target_kept s)
step_at (spot.Index n) t l s = token_kept l (spot_in_index t n) s
step_at spot.Item (token.Mark mark.Semicolon) l s = item_stored l s
step_at spot.Item _ l s = refused l s
step_at _ _ l s = token_passed l s

abbrev pub step : Cells → Lexeme → Cells
step s l = step_at s.spot l.token l s

-- the tokens with reads into variables alone
abbrev pub with_cells : List Lexeme → List Lexeme
with_cells ls = (fold step (at_first ls) ls).left
