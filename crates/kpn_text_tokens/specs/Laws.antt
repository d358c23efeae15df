-- The laws of the tokens, on which the layers above depend: a scan reads what the rules say, and how the parts of a
-- printed text are read.
use Rattle.std.specs.Prelude.{◌≡◌, ℕ, ◌+◌, ◌<◌, ◌≤◌, ◌^◌, ◌⊎◌, ◌↔◌, Bool, true, not, ◌||◌, ◌==◌, List, [], ◌∷◌, ◌++◌, length, map, Option, Some, None, Result, Ok, Err}
use Rattle.std.specs.Fmt.{decimal}
use Rattle.std.specs.List.{AllByRecursion, list_all}
use Rattle.kpn_limits.specs.declared.TheConstants.{MAX_TEXT_BYTES}
use Rattle.kpn_text_tokens.specs.declared.lexer.LexFault.{LexFault}
use Rattle.kpn_text_tokens.specs.declared.tokens.Language.{Language}
use Rattle.kpn_text_tokens.specs.declared.tokens.Lexeme.{Lexeme}
use Rattle.kpn_text_tokens.specs.declared.tokens.Token.{Token}
use Rattle.kpn_text_tokens.specs.declared.tokens.Token.TheVariants as token
use Rattle.kpn_text_tokens.specs.Lexing.{is_white_space, lexemes_of, scan}
use Rattle.kpn_text_tokens.specs.Numerals.{begins_quote}
use Rattle.kpn_text_tokens.specs.Rules.{EndsBefore, IsSpelled, Reads}

-- A scan returns what the rules say, and they allow only one result.
abbrev pub ScanFollowsTheRules : Type 0
ScanFollowsTheRules = (l : Language) (place : ℕ) (text : List ℕ) (r : Result (List Lexeme) LexFault)
    → (scan l 0 place text ≡ r) ↔ Reads l place text r

-- A text within the limit is scanned from its first byte.
abbrev pub ShortTextIsScanned : Type 0
ShortTextIsScanned =
    (l : Language) (text : List ℕ) → length text ≤ MAX_TEXT_BYTES → lexemes_of l text ≡ scan l 0 0 text

-- the lexemes of a part of a text, and then what follows it
abbrev pub followed_by : Result (List Lexeme) LexFault → Result (List Lexeme) LexFault → Result (List Lexeme) LexFault
followed_by (Ok front) (Ok ls) = Ok (front ++ ls)
followed_by (Ok front) (Err fault) = Err fault
followed_by (Err fault) r = Err fault

-- what the byte begins may go on with white space: a comment, or a quote of language 2
abbrev pub may_hide : Language → ℕ → Bool
may_hide l b = b == 35 || begins_quote l b

-- A byte of white space ends what comes before it, if that is no comment and no quote; a line feed ends both.
abbrev pub Separates : Language → ℕ → List ℕ → Type 0
Separates l w before = (is_white_space w ≡ true) × ((w ≡ 10) ⊎ (list_all (λ b. not (may_hide l b)) before ≡ true))

-- What comes before such a byte is read by itself, and then what comes after it.
abbrev pub WhiteSpaceSeparates : Type 0
WhiteSpaceSeparates = (l : Language) (place w : ℕ) (before rest : List ℕ) → Separates l w before
    → scan l 0 place (before ++ w ∷ rest) ≡
    followed_by (scan l 0 place before) (scan l 0 (place + length before + 1) rest)

-- the tokens without their places; nothing if there is a fault
abbrev pub tokens_in : Result (List Lexeme) LexFault → Option (List Token)
tokens_in (Ok ls) = Some (map (λ l. l.token) ls)
tokens_in (Err fault) = None

-- the tokens of a text in a language without their places; nothing if it has a fault
unfoldable pub tokens_of : Language → List ℕ → Option (List Token)
tokens_of l text = tokens_in (scan l 0 0 text)

-- a token before others
abbrev pub cons_token : Token → Option (List Token) → Option (List Token)
cons_token t (Some ts) = Some (t ∷ ts)
cons_token t None = None

-- tokens before others
abbrev pub append_tokens : Option (List Token) → Option (List Token) → Option (List Token)
append_tokens (Some front) (Some ts) = Some (front ++ ts)
append_tokens (Some front) None = None
append_tokens None ts = None

-- The place of a text changes no token.
abbrev pub TokensKeepTheirKind : Type 0
TokensKeepTheirKind = (l : Language) (place : ℕ) (text : List ℕ) → tokens_in (scan l 0 place text) ≡ tokens_of l text

-- A text of no bytes has no tokens.
abbrev pub EmptyTextHasNoTokens : Type 0
EmptyTextHasNoTokens = (l : Language) → tokens_of l [] ≡ Some []

-- A spelled token is read as that token, if what follows does not go on with it.
abbrev pub SpelledTokenIsRead : Type 0
SpelledTokenIsRead = (l : Language) (t : Token) (bytes rest : List ℕ) → IsSpelled l t bytes → EndsBefore l t rest
    → tokens_of l (bytes ++ rest) ≡ cons_token t (tokens_of l rest)

-- White space is no token.
abbrev pub WhiteSpaceIsDropped : Type 0
WhiteSpaceIsDropped =
    (l : Language) (w : ℕ) (rest : List ℕ) → is_white_space w ≡ true → tokens_of l (w ∷ rest) ≡ tokens_of l rest

-- White space parts the tokens of a text.
abbrev pub WhiteSpaceSeparatesTokens : Type 0
WhiteSpaceSeparatesTokens = (l : Language) (w : ℕ) (before rest : List ℕ) → Separates l w before
    → tokens_of l (before ++ w ∷ rest) ≡ append_tokens (tokens_of l before) (tokens_of l rest)

-- A number in canonical decimal is spelled.
abbrev pub DecimalIsSpelled : Type 0
DecimalIsSpelled = (l : Language) (n : ℕ) → n < 2 ^ 63 → IsSpelled l (token.Number n) (decimal n)

-- the token can be spelled in a language
abbrev pub HasSpelling : Language → Token → Type 0
HasSpelling l t = (bytes : List ℕ) × IsSpelled l t bytes

-- A token that was read in a language can be spelled in it: each name is a name, each number is in range, and the
-- language has each mark and each reserved word.
abbrev pub ReadTokensAreSpelled : Type 0
ReadTokensAreSpelled =
    (l : Language) (text : List ℕ) (ts : List Token) → tokens_of l text ≡ Some ts → AllByRecursion (HasSpelling l) ts
