-- The rules by which a text is read in a language, as the format states them: how each token is spelled, what may
-- follow it, and what is a fault. They say nothing about how a scan works.
use Rattle.std.specs.Prelude.{◌≡◌, ℕ, ◌+◌, ◌<◌, ◌≤◌, ◌⊎◌, true, false, ◌==◌, List, [], ◌∷◌, ◌++◌, length, drop, slice_index, codes, Option, Some, None, Result, Ok, Err, nat_eq}
use Rattle.std.specs.Char.{is_ascii_digit}
use Rattle.std.specs.List.{list_all, starts_with}
use Rattle.std.specs.Str.Parse.{digits_value}
use Rattle.kpn_limits.specs.declared.TheConstants.{MAX_DIGITS, MAX_NAME_BYTES}
use Rattle.kpn_text_tokens.specs.declared.tokens.TheConstants.{MAX_NUMBER}
use Rattle.kpn_text_tokens.specs.declared.lexer.Class.{Class}
use Rattle.kpn_text_tokens.specs.declared.lexer.Class.TheVariants as class
use Rattle.kpn_text_tokens.specs.declared.lexer.LexFault.{LexFault}
use Rattle.kpn_text_tokens.specs.declared.lexer.LexFault.TheVariants as fault
use Rattle.kpn_text_tokens.specs.declared.tokens.Language.{Language}
use Rattle.kpn_text_tokens.specs.declared.tokens.Language.TheVariants as language
use Rattle.kpn_text_tokens.specs.declared.tokens.Lexeme.{Lexeme}
use Rattle.kpn_text_tokens.specs.declared.tokens.Mark.{Mark}
use Rattle.kpn_text_tokens.specs.declared.tokens.Mark.TheVariants as mark
use Rattle.kpn_text_tokens.specs.declared.tokens.Token.{Token}
use Rattle.kpn_text_tokens.specs.declared.tokens.Token.TheVariants as token
use Rattle.kpn_text_tokens.specs.Lexing.{is_white_space, begins_name, is_in, number_class, cons_lexeme}
use Rattle.kpn_text_tokens.specs.Numerals.{begins_quote, numeral_value, quoted_length, quoted_value}
use Rattle.kpn_text_tokens.specs.Spelling.{has_keyword, has_mark, keyword_of, keyword_bytes, mark_bytes}

-- all bytes are of a class
abbrev pub AllIn : Class → List ℕ → Type 0
AllIn c bytes = list_all (is_in c) bytes ≡ true

-- a text does not go on with a byte of a class
abbrev pub Stops : Class → List ℕ → Type 0
Stops c [] = Unit {0}
Stops c (b ∷ bs) = is_in c b ≡ false

-- a letter or `_`, then letters, digits and `_`
pub record IsWord (bytes : List ℕ) : Type 0 where
  pub begins : begins_name (slice_index bytes 0) ≡ true
  pub goes_on : AllIn class.Word bytes

-- a name of a language is a word of at most 32 bytes that it does not reserve
pub record IsName (l : Language) (bytes : List ℕ) : Type 0 where
  pub word : IsWord bytes
  pub short : length bytes ≤ MAX_NAME_BYTES
  pub free : keyword_of l bytes ≡ None

-- a number is written with 1 to 19 digits, leading zeros included, and is at most 2 ^ 63 - 1
pub record IsNumberOf (value : ℕ) (bytes : List ℕ) : Type 0 where
  pub digits : AllIn class.Digit bytes
  pub some : 0 < length bytes
  pub few : length bytes ≤ MAX_DIGITS
  pub has_value : digits_value 10 bytes ≡ value
  pub small : value ≤ MAX_NUMBER

-- in language 2 a digit, and then letters, digits and `_` that have a value
pub record IsNumeralOf (value : ℕ) (bytes : List ℕ) : Type 0 where
  pub begins : is_ascii_digit (slice_index bytes 0) ≡ true
  pub goes_on : AllIn class.Word bytes
  pub has_value : numeral_value bytes ≡ Some value

abbrev pub IsNumber : Language → ℕ → List ℕ → Type 0
IsNumber language.One value bytes = IsNumberOf value bytes
IsNumber language.Two value bytes = IsNumeralOf value bytes

-- the bytes are too many, or have too great a value, or in language 2 none
abbrev pub IsBadNumber : Language → List ℕ → Type 0
IsBadNumber language.One digits = (MAX_DIGITS < length digits) ⊎ (MAX_NUMBER < digits_value 10 digits)
IsBadNumber language.Two word = numeral_value word ≡ None

-- the bytes spell the token in a language, which has it. In language 2 a number may also be a byte in quotes, as below
abbrev pub IsSpelled : Language → Token → List ℕ → Type 0
IsSpelled l (token.Name name) bytes = IsName l name × (bytes ≡ name)
IsSpelled l (token.Number value) bytes = IsNumber l value bytes
IsSpelled l (token.Mark mark) bytes = (has_mark l mark ≡ true) × (bytes ≡ mark_bytes mark)
IsSpelled l (token.Keyword keyword) bytes = (has_keyword l keyword ≡ true) × (bytes ≡ keyword_bytes keyword)

-- in language 2 the same byte does not follow once more
abbrev pub NotDoubled : Language → List ℕ → List ℕ → Type 0
NotDoubled language.One byte rest = Unit {0}
NotDoubled language.Two byte rest = starts_with nat_eq rest byte ≡ false

-- no byte follows that would make the mark another one of the language
abbrev pub MarkEnds : Language → Mark → List ℕ → Type 0
MarkEnds l mark.Assign rest = starts_with nat_eq rest (codes "=") ≡ false
MarkEnds l mark.Less rest = (starts_with nat_eq rest (codes "=") ≡ false) × NotDoubled l (codes "<") rest
MarkEnds l mark.Greater rest = (starts_with nat_eq rest (codes "=") ≡ false) × NotDoubled l (codes ">") rest
MarkEnds l mark.Not rest = starts_with nat_eq rest (codes "=") ≡ false
MarkEnds l mark.BitAnd rest = NotDoubled l (codes "&") rest
MarkEnds l mark.BitOr rest = NotDoubled l (codes "|") rest
MarkEnds l _ rest = Unit {0}

-- the token is the longest there: what follows does not go on with it
abbrev pub EndsBefore : Language → Token → List ℕ → Type 0
EndsBefore l (token.Name name) rest = Stops class.Word rest
EndsBefore l (token.Number value) rest = Stops (number_class l) rest
EndsBefore l (token.Mark mark) rest = MarkEnds l mark rest
EndsBefore l (token.Keyword keyword) rest = Stops class.Word rest

-- nothing of a language can begin with these bytes, of which b is the first
pub record BeginsNothing (l : Language) (b : ℕ) (bs : List ℕ) : Type 0 where
  pub no_space : is_white_space b ≡ false
  pub no_comment : (b == 35) ≡ false
  pub no_word : begins_name b ≡ false
  pub no_number : is_ascii_digit b ≡ false
  pub no_quote : begins_quote l b ≡ false
  pub no_mark : (m : Mark) → has_mark l m ≡ true → starts_with nat_eq (b ∷ bs) (mark_bytes m) ≡ false

-- In a language a text that begins at a place is read as these lexemes, or has this first fault.
pub data Reads (l : Language) : ℕ → List ℕ → Result (List Lexeme) LexFault → Type 0 where
  done : {place : ℕ} → Reads l place [] (Ok [])
  white : {place b : ℕ} {rest : List ℕ} {r : Result (List Lexeme) LexFault} → is_white_space b ≡ true
      → Reads l (place + 1) rest r → Reads l place (b ∷ rest) r
  comment : {place : ℕ} (said rest : List ℕ) {r : Result (List Lexeme) LexFault} → AllIn class.Comment said
      → Stops class.Comment rest → Reads l (place + length (35 ∷ said)) rest r → Reads l place (35 ∷ said ++ rest) r
  spelled : {place : ℕ} (t : Token) (bytes rest : List ℕ) {r : Result (List Lexeme) LexFault} → IsSpelled l t bytes
      → EndsBefore l t rest → Reads l (place + length bytes) rest r
      → Reads l place (bytes ++ rest) (cons_lexeme (record { token = t; start = place }) r)
  nothing : {place b : ℕ} {bs : List ℕ} → BeginsNothing l b bs → Reads l place (b ∷ bs) (Err (fault.Token place))
  bad_number : {place : ℕ} (digits rest : List ℕ) → AllIn (number_class l) digits
      → is_ascii_digit (slice_index digits 0) ≡ true → Stops (number_class l) rest → IsBadNumber l digits
      → Reads l place (digits ++ rest) (Err (fault.Token place))
  quoted : {place b : ℕ} {bs : List ℕ} (value : ℕ) {r : Result (List Lexeme) LexFault} → begins_quote l b ≡ true
      → quoted_value (b ∷ bs) ≡ Some value
      → Reads l (place + quoted_length (b ∷ bs)) (drop (quoted_length (b ∷ bs)) (b ∷ bs)) r
      → Reads l place (b ∷ bs) (cons_lexeme (record { token = token.Number value; start = place }) r)
  bad_quoted : {place b : ℕ} {bs : List ℕ} → begins_quote l b ≡ true → quoted_value (b ∷ bs) ≡ None
      → Reads l place (b ∷ bs) (Err (fault.Token place))
  long_name : {place : ℕ} (word rest : List ℕ) → IsWord word → Stops class.Word rest → MAX_NAME_BYTES < length word
      → Reads l place (word ++ rest) (Err (fault.TooLong place))
