-- The tokens of a text in a language, and its first fault. Read from the front, a text is a row of pieces: white space,
-- comments and tokens, each the longest that can be there.
use Rattle.std.specs.Prelude.{ℕ, zero, suc, ◌-◌, ◌≤◌, Bool, not, ◌&&◌, ◌||◌, ◌==◌, nat_lt, nat_le, if◌then◌else◌, List, [], ◌∷◌, length, Option, Some, None, Result, Ok, Err, Vec, ◌≡◌}
use Rattle.std.specs.Char.{is_ascii_digit, is_ascii_alphabetic}
use Rattle.std.specs.List.{take_while}
use Rattle.std.specs.Str.Parse.{digits_value}
use Rattle.kpn_limits.specs.declared.TheConstants.{MAX_DIGITS, MAX_NAME_BYTES, MAX_TEXT_BYTES}
use Rattle.kpn_text_tokens.specs.declared.tokens.TheConstants.{MAX_NUMBER}
use Rattle.kpn_text_tokens.specs.declared.lexer.Class.{Class}
use Rattle.kpn_text_tokens.specs.declared.lexer.Class.TheVariants as class
use Rattle.kpn_text_tokens.specs.declared.lexer.LexFault.{LexFault}
use Rattle.kpn_text_tokens.specs.declared.lexer.LexFault.TheVariants as fault
use Rattle.kpn_text_tokens.specs.declared.lexer.Piece.{Piece}
use Rattle.kpn_text_tokens.specs.declared.lexer.Piece.TheVariants as piece
use Rattle.kpn_text_tokens.specs.declared.tokens.Keyword.{Keyword}
use Rattle.kpn_text_tokens.specs.declared.tokens.Language.{Language}
use Rattle.kpn_text_tokens.specs.declared.tokens.Language.TheVariants as language
use Rattle.kpn_text_tokens.specs.declared.tokens.Lexeme.{Lexeme}
use Rattle.kpn_text_tokens.specs.declared.tokens.Mark.{Mark}
use Rattle.kpn_text_tokens.specs.declared.tokens.Token.{Token}
use Rattle.kpn_text_tokens.specs.declared.tokens.Token.TheVariants as token
use Rattle.kpn_text_tokens.specs.Numerals.{begins_quote, numeral_value, quoted_length, quoted_value}
use Rattle.kpn_text_tokens.specs.Spelling.{keyword_of, mark_at, mark_bytes}

-- space, tab, carriage return, line feed
abbrev pub is_white_space : ℕ → Bool
is_white_space b = b == 32 || b == 9 || b == 13 || b == 10

-- a letter or `_`
abbrev pub begins_name : ℕ → Bool
begins_name b = is_ascii_alphabetic b || b == 95

-- whether a byte is of a class
abbrev pub is_in : Class → ℕ → Bool
is_in class.Comment b = not (b == 10)
is_in class.Word b = begins_name b || is_ascii_digit b
is_in class.Digit b = is_ascii_digit b

-- the longest front of a text whose bytes are all of a class
abbrev pub run : Class → List ℕ → List ℕ
run class text = take_while (is_in class) text

-- a reserved word, or a name
abbrev pub word_token : Option Keyword → List ℕ → Token
word_token (Some keyword) word = token.Keyword keyword
word_token None word = token.Name word

-- a word of more than 32 bytes (MAX_NAME_BYTES) is too long
abbrev pub word_piece : Language → List ℕ → Piece
word_piece l word = if nat_lt MAX_NAME_BYTES (length word) then piece.LongName else piece.Token
    (word_token (keyword_of l word) word) (length word)

-- a number has at most 19 digits (MAX_DIGITS) and is at most 2 ^ 63 - 1 (MAX_NUMBER)
abbrev pub number_piece : List ℕ → Piece
number_piece digits =
    if nat_le (length digits) MAX_DIGITS && nat_le (digits_value 10 digits) MAX_NUMBER
    then piece.Token (token.Number (digits_value 10 digits)) (length digits)
    else piece.NoToken

-- a number of this value in so many bytes, or no token
abbrev pub numbered : Option ℕ → ℕ → Piece
numbered (Some value) n = piece.Token (token.Number value) n
numbered None n = piece.NoToken

-- what a number goes on with: in language 2 with letters, digits and `_`
abbrev pub number_class : Language → Class
number_class language.One = class.Digit
number_class language.Two = class.Word

-- the number that such bytes are
abbrev pub numeral_piece : Language → List ℕ → Piece
numeral_piece language.One digits = number_piece digits
numeral_piece language.Two word = numbered (numeral_value word) (length word)

abbrev pub quoted_piece : List ℕ → Piece
quoted_piece text = numbered (quoted_value text) (quoted_length text)

-- the mark that was found, or no token
abbrev pub marked : Option Mark → Piece
marked (Some mark) = piece.Token (token.Mark mark) (length (mark_bytes mark))
marked None = piece.NoToken

abbrev pub mark_piece : Language → List ℕ → Piece
mark_piece l text = marked (mark_at l text)

-- what is at the front of a text in a language, whose first byte is b
unfoldable pub piece_of : Language → ℕ → List ℕ → Piece
piece_of l b text =
    if is_white_space b then piece.Gap 1
    else (if b == 35 then piece.Gap (length (run class.Comment text))
    else (if begins_name b then word_piece l (run class.Word text)
    else (if is_ascii_digit b then numeral_piece l (run (number_class l) text)
    else (if begins_quote l b then quoted_piece text
    else mark_piece l text))))

-- Scaffolding, of the one call that finds a piece: it takes a byte or more, and no more than there are.
abbrev pub TakesWithin : Piece → ℕ → Type 0
TakesWithin (piece.Gap n) available = (1 ≤ n) × (n ≤ available)
TakesWithin (piece.Token token n) available = (1 ≤ n) × (n ≤ available)
TakesWithin piece.NoToken available = Unit {0}
TakesWithin piece.LongName available = Unit {0}

-- a lexeme before those that follow, if there is no fault among them
abbrev pub cons_lexeme : Lexeme → Result (List Lexeme) LexFault → Result (List Lexeme) LexFault
cons_lexeme l (Ok ls) = Ok (l ∷ ls)
cons_lexeme l (Err fault) = Err fault

-- what comes of a piece at a place, and of what follows behind its further bytes
abbrev pub after : Piece → ℕ → (ℕ → Result (List Lexeme) LexFault) → Result (List Lexeme) LexFault
after (piece.Gap n) place follow = follow (n - 1)
after (piece.Token token n) place follow = cons_lexeme (record { token = token; start = place }) (follow (n - 1))
after piece.NoToken place follow = Err (fault.Token place)
after piece.LongName place follow = Err (fault.TooLong place)

-- The lexemes, in a language, of a text that begins at a place, or the first fault. Its first `inside` bytes belong to
-- the piece before it and are passed over.
abbrev pub scan : Language → ℕ → ℕ → List ℕ → Result (List Lexeme) LexFault
scan l inside place [] = Ok []
scan l (suc inside) place (b ∷ bs) = scan l inside (suc place) bs
scan l zero place (b ∷ bs) = after (piece_of l b (b ∷ bs)) place (λ inside. scan l inside (suc place) bs)

-- a description is at most 1,048,576 bytes long (MAX_TEXT_BYTES)
abbrev pub lexemes_of : Language → List ℕ → Result (List Lexeme) LexFault
lexemes_of l text =
    if nat_lt MAX_TEXT_BYTES (length text) then Err (fault.TooLong MAX_TEXT_BYTES) else scan l 0 0 text

-- a call returned the lexemes, or the fault, or ran out of memory
abbrev pub Gives : {A : Type 0} → Result (Vec Lexeme A) LexFault → Result (List Lexeme) LexFault → Type 0
Gives (Ok found) read = read ≡ Ok found.items
Gives (Err fault.NoMemory) read = Unit {0}
Gives (Err (fault.Token at)) read = read ≡ Err (fault.Token at)
Gives (Err (fault.TooLong at)) read = read ≡ Err (fault.TooLong at)
