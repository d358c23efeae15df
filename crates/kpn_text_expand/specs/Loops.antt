-- Loops over a range: `for i in a..b { s }` becomes `i = a; to = b; while i < to { s i = i + 1; }`, where `to` stands for
-- a name that the text has nowhere else.
use Rattle.std.specs.Prelude.{ℕ, ◌+◌, ◌-◌, ◌==◌, min, if◌then◌else◌, List, [], ◌∷◌, ◌++◌, length, take, slice_get, Option, Some, None}
use Rattle.std.specs.List.{fold}
use Rattle.kpn_text_tokens.specs.declared.tokens.Keyword.TheVariants as keyword
use Rattle.kpn_text_tokens.specs.declared.tokens.Lexeme.{Lexeme}
use Rattle.kpn_text_tokens.specs.declared.tokens.Mark.TheVariants as mark
use Rattle.kpn_text_tokens.specs.declared.tokens.Token.{Token}
use Rattle.kpn_text_tokens.specs.declared.tokens.Token.TheVariants as token
use Rattle.kpn_text_grammar.specs.Syntax.{NameBytes}
use Rattle.kpn_text_expand.specs.declared.loops.Loops.{Loops}
use Rattle.kpn_text_expand.specs.declared.loops.LoopSpot.{LoopSpot}
use Rattle.kpn_text_expand.specs.declared.loops.LoopSpot.TheVariants as spot
use Rattle.kpn_text_expand.specs.Constants.{with_token}
use Rattle.kpn_text_expand.specs.declared.hidden.Hidden.TheVariants as hidden
use Rattle.kpn_text_expand.specs.Hidden.{hidden_name, most_taken}

-- the innermost of the open blocks, and those around it
abbrev pub innermost : List Lexeme → Option Lexeme
innermost bs = slice_get bs (length bs - 1)

abbrev pub blocks_around : List Lexeme → List Lexeme
blocks_around bs = take (length bs - 1) bs

abbrev pub name_said : Token → Option NameBytes
name_said (token.Name x) = Some x
name_said _ = None

abbrev pub name_if : Option Lexeme → Option NameBytes
name_if (Some l) = name_said l.token
name_if None = None

-- the variable of the innermost block, if that is a loop
abbrev pub loop_variable : List Lexeme → Option NameBytes
loop_variable bs = name_if (innermost bs)

-- before the first of these tokens
abbrev pub at_first : List Lexeme → Loops
at_first ls = record { left = []; blocks = []; taken = most_taken hidden.End ls; spot = spot.Inside }

-- the name that keeps the end of the innermost loop: longer in each block, and than each one of the text
abbrev pub end_name : Loops → Option NameBytes
end_name s = hidden_name hidden.End (min (s.taken + (length s.blocks - 1)) 18446744073709551615)

abbrev pub one_added : Token → (at : ℕ) → Loops → Loops
one_added t at s = record s { left = with_token t at s.left }

-- a token that stays, after which the next one has this spot
abbrev pub token_kept : Lexeme → LoopSpot → Loops → Loops
token_kept l p s = record s { left = s.left ++ l ∷ []; spot = p }

-- i = i + 1;
abbrev pub counted_up : NameBytes → (at : ℕ) → Loops → Loops
counted_up x at s =
    one_added (token.Mark mark.Semicolon) at
    (one_added (token.Number 1) at
    (one_added (token.Mark mark.Plus) at
    (one_added (token.Name x) at (one_added (token.Mark mark.Assign) at (one_added (token.Name x) at s)))))

abbrev pub counted_if : Option NameBytes → (at : ℕ) → Loops → Loops
counted_if (Some x) at s = counted_up x at s
counted_if None at s = s

-- a `}`: at the end of a loop its variable grows by 1
abbrev pub block_closed : Lexeme → Loops → Loops
block_closed l s =
    token_kept l spot.Front
    (counted_if (loop_variable s.blocks) l.start (record s { blocks = blocks_around s.blocks }))

-- a token that opens a block: its brace, or the variable of a loop
abbrev pub block_opened : Lexeme → LoopSpot → Loops → Loops
block_opened l p s = token_kept l p (record s { blocks = s.blocks ++ l ∷ [] })

-- a token outside of the head of a loop
abbrev pub passed_by : Token → Lexeme → Loops → Loops
passed_by (token.Mark mark.LeftBrace) l s = block_opened l spot.Front s
passed_by (token.Mark mark.RightBrace) l s = block_closed l s
passed_by (token.Mark mark.Semicolon) l s = token_kept l spot.Front s
passed_by (token.Keyword keyword.Network) l s = token_kept l spot.Rest s
passed_by _ l s = token_kept l spot.Inside s

abbrev pub token_passed : Lexeme → Loops → Loops
token_passed l s = passed_by l.token l s

-- a token that may not be there: the grammar refuses `for` at its byte
abbrev pub refused : Lexeme → Loops → Loops
refused l s = token_kept l spot.Rest (one_added (token.Keyword keyword.For) l.start s)

-- `in`: `=` after the variable
abbrev pub range_begun : (at : ℕ) → Loops → Loops
range_begun at s = one_added (token.Mark mark.Assign) at (record s { spot = spot.First })

abbrev pub end_begun_as : Option NameBytes → Lexeme → Loops → Loops
end_begun_as (Some x) l s =
    one_added (token.Mark mark.Assign) l.start
    (one_added (token.Name x) l.start (one_added (token.Mark mark.Semicolon) l.start (record s { spot = spot.End })))
end_begun_as None l s = refused l s

-- `..`: `; to =` after the first number
abbrev pub end_begun : Lexeme → Loops → Loops
end_begun l s = end_begun_as (end_name s) l s

-- ; while i < to
abbrev pub test_written : (x to : NameBytes) → (at : ℕ) → Loops → Loops
test_written x to at s =
    one_added (token.Name to) at
    (one_added (token.Mark mark.Less) at
    (one_added (token.Name x) at
    (one_added (token.Keyword keyword.While) at (one_added (token.Mark mark.Semicolon) at s))))

abbrev pub body_begun_as : (x to : Option NameBytes) → Lexeme → Loops → Loops
body_begun_as (Some x) (Some to) l s = token_kept l spot.Front (test_written x to l.start s)
body_begun_as _ _ l s = refused l s

-- `{` after the end
abbrev pub body_begun : Lexeme → Loops → Loops
body_begun l s = body_begun_as (loop_variable s.blocks) (end_name s) l s

abbrev pub step_at : LoopSpot → Token → Lexeme → Loops → Loops
step_at spot.Rest _ l s = token_kept l spot.Rest s
step_at spot.Front (token.Keyword keyword.For) l s =
    if length s.blocks == 0 then token_passed l s else record s { spot = spot.Word }
step_at spot.Word (token.Name x) l s = block_opened l spot.Variable s
step_at spot.Variable (token.Keyword keyword.In) l s = range_begun l.start s
step_at spot.First (token.Mark mark.Range) l s = end_begun l s
step_at spot.End (token.Mark mark.LeftBrace) l s = body_begun l s
step_at spot.First (token.Mark mark.Semicolon) l s = refused l s
step_at spot.End (token.Mark mark.Semicolon) l s = refused l s
step_at spot.First _ l s = token_kept l spot.First s
step_at spot.End _ l s = token_kept l spot.End s
step_at spot.Word _ l s = refused l s
step_at spot.Variable _ l s = refused l s
step_at _ _ l s = token_passed l s

abbrev pub step : Loops → Lexeme → Loops
step s l = step_at s.spot l.token l s

-- the tokens with `while` in place of `for`
abbrev pub with_loops : List Lexeme → List Lexeme
with_loops ls = (fold step (at_first ls) ls).left
