-- How marks and reserved words are spelled, and which of them a language has.
use Rattle.std.specs.Prelude.{ℕ, Bool, true, false, ◌&&◌, List, [], ◌∷◌, codes, Option, nat_eq}
use Rattle.std.specs.List.{find, starts_with}
use Rattle.std.specs.Str.{bytes_eq}
use Rattle.kpn_text_tokens.specs.declared.tokens.Keyword.{Keyword}
use Rattle.kpn_text_tokens.specs.declared.tokens.Keyword.TheVariants as keyword
use Rattle.kpn_text_tokens.specs.declared.tokens.Language.{Language}
use Rattle.kpn_text_tokens.specs.declared.tokens.Language.TheVariants as language
use Rattle.kpn_text_tokens.specs.declared.tokens.Mark.{Mark}
use Rattle.kpn_text_tokens.specs.declared.tokens.Mark.TheVariants as mark

-- the bytes that spell a mark
abbrev pub mark_bytes : Mark → List ℕ
mark_bytes mark.LeftParen = codes "("
mark_bytes mark.RightParen = codes ")"
mark_bytes mark.LeftBrace = codes "{"
mark_bytes mark.RightBrace = codes "}"
mark_bytes mark.Semicolon = codes ";"
mark_bytes mark.Comma = codes ","
mark_bytes mark.Assign = codes "="
mark_bytes mark.Plus = codes "+"
mark_bytes mark.Minus = codes "-"
mark_bytes mark.Star = codes "*"
mark_bytes mark.Slash = codes "/"
mark_bytes mark.Percent = codes "%"
mark_bytes mark.Less = codes "<"
mark_bytes mark.LessOrEqual = codes "<="
mark_bytes mark.Greater = codes ">"
mark_bytes mark.GreaterOrEqual = codes ">="
mark_bytes mark.Equal = codes "=="
mark_bytes mark.NotEqual = codes "!="
mark_bytes mark.And = codes "&&"
mark_bytes mark.Or = codes "||"
mark_bytes mark.Not = codes "!"
mark_bytes mark.LeftBracket = codes "["
mark_bytes mark.RightBracket = codes "]"
mark_bytes mark.Question = codes "?"
mark_bytes mark.Colon = codes ":"
mark_bytes mark.BitNot = codes "~"
mark_bytes mark.BitAnd = codes "&"
mark_bytes mark.BitOr = codes "|"
mark_bytes mark.BitXor = codes "^"
mark_bytes mark.ShiftLeft = codes "<<"
mark_bytes mark.ShiftRight = codes ">>"
mark_bytes mark.Range = codes ".."

abbrev pub is_two : Language → Bool
is_two language.One = false
is_two language.Two = true

-- a language has a mark: language 2 alone has `[ ] ? : ~ & | ^ << >> ..`
abbrev pub has_mark : Language → Mark → Bool
has_mark l mark.LeftBracket = is_two l
has_mark l mark.RightBracket = is_two l
has_mark l mark.Question = is_two l
has_mark l mark.Colon = is_two l
has_mark l mark.BitNot = is_two l
has_mark l mark.BitAnd = is_two l
has_mark l mark.BitOr = is_two l
has_mark l mark.BitXor = is_two l
has_mark l mark.ShiftLeft = is_two l
has_mark l mark.ShiftRight = is_two l
has_mark l mark.Range = is_two l
has_mark l _ = true

-- the bytes that spell a reserved word
abbrev pub keyword_bytes : Keyword → List ℕ
keyword_bytes keyword.Process = codes "process"
keyword_bytes keyword.In = codes "in"
keyword_bytes keyword.Out = codes "out"
keyword_bytes keyword.Par = codes "par"
keyword_bytes keyword.Read = codes "read"
keyword_bytes keyword.Write = codes "write"
keyword_bytes keyword.If = codes "if"
keyword_bytes keyword.Else = codes "else"
keyword_bytes keyword.While = codes "while"
keyword_bytes keyword.Network = codes "network"
keyword_bytes keyword.Limit = codes "limit"
keyword_bytes keyword.Channel = codes "channel"
keyword_bytes keyword.Cap = codes "cap"
keyword_bytes keyword.Source = codes "source"
keyword_bytes keyword.Sink = codes "sink"
keyword_bytes keyword.Policy = codes "policy"
keyword_bytes keyword.Grow = codes "grow"
keyword_bytes keyword.Language = codes "language"
keyword_bytes keyword.Array = codes "array"
keyword_bytes keyword.Table = codes "table"
keyword_bytes keyword.Const = codes "const"
keyword_bytes keyword.For = codes "for"

-- a language has a reserved word: language 2 alone has `language`, `array`, `table`, `const` and `for`
abbrev pub has_keyword : Language → Keyword → Bool
has_keyword l keyword.Language = is_two l
has_keyword l keyword.Array = is_two l
has_keyword l keyword.Table = is_two l
has_keyword l keyword.Const = is_two l
has_keyword l keyword.For = is_two l
has_keyword l _ = true

-- every mark, the longer ones first
abbrev pub marks : List Mark
marks =
    mark.LessOrEqual ∷ mark.GreaterOrEqual ∷ mark.Equal ∷ mark.NotEqual ∷ mark.And ∷ mark.Or ∷ mark.ShiftLeft
    ∷ mark.ShiftRight ∷ mark.LeftParen ∷ mark.RightParen ∷ mark.LeftBrace ∷ mark.RightBrace ∷ mark.Semicolon
    ∷ mark.Comma ∷ mark.Assign ∷ mark.Plus ∷ mark.Minus ∷ mark.Star ∷ mark.Slash ∷ mark.Percent ∷ mark.Less
    ∷ mark.Greater ∷ mark.Not ∷ mark.LeftBracket ∷ mark.RightBracket ∷ mark.Question ∷ mark.Colon ∷ mark.BitNot
    ∷ mark.BitAnd ∷ mark.BitOr ∷ mark.BitXor ∷ mark.Range ∷ []

-- the longest mark of a language at the front of a text
unfoldable pub mark_at : Language → List ℕ → Option Mark
mark_at l text = find (λ m. starts_with nat_eq text (mark_bytes m) && has_mark l m) marks

-- every reserved word
abbrev pub keywords : List Keyword
keywords = keyword.Process ∷ keyword.In ∷ keyword.Out ∷ keyword.Par ∷ keyword.Read ∷ keyword.Write ∷ keyword.If
    ∷ keyword.Else ∷ keyword.While ∷ keyword.Network ∷ keyword.Limit ∷ keyword.Channel ∷ keyword.Cap ∷ keyword.Source
    ∷ keyword.Sink ∷ keyword.Policy ∷ keyword.Grow ∷ keyword.Language ∷ keyword.Array ∷ keyword.Table ∷ keyword.Const
    ∷ keyword.For ∷ []

-- the reserved word of a language that the bytes spell
unfoldable pub keyword_of : Language → List ℕ → Option Keyword
keyword_of l word = find (λ k. bytes_eq (keyword_bytes k) word && has_keyword l k) keywords
