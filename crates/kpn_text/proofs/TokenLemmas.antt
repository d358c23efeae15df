-- How the pieces of a printed text are read: tokens and white space in front of what follows.
use Rattle.kpn_text.proofs.Common.{◌≡◌, ℕ, zero, suc, ◌<◌, ◌^◌, true, List, [], ◌∷◌, ◌++◌, codes, Some, refl, ap, ◌∙◌, is_ascii_digit, decimal, Keyword, Language, Mark, Token, cons_token, tokens_of, begins_name, is_white_space, EndsBefore, IsName, IsSpelled, MarkEnds, has_keyword, has_mark, keyword_bytes, mark_bytes, decimal_spelled, empty_text, spelled_token, white_dropped, EndsWord, indented}
use Rattle.std.proofs.lemmas.Bool.{or_parts}
use Rattle.kpn_text_tokens.specs.declared.tokens.Language.TheVariants as language
use Rattle.kpn_text_tokens.specs.declared.tokens.Token.TheVariants as token

-- the text is read as the tokens in a language
pub record IsReadAs (l : Language) (text : List ℕ) (tokens : List Token) : Type 0 where
  pub read : tokens_of l text ≡ Some tokens

pub nothing_read : (l : Language) → IsReadAs l [] []
nothing_read l = record { read = empty_text l }

-- a token, and then what follows
pub token_read : {l : Language} (t : Token) (bytes more : List ℕ) (tokens : List Token) → IsSpelled l t bytes
    → EndsBefore l t more → IsReadAs l more tokens → IsReadAs l (bytes ++ more) (t ∷ tokens)
token_read {l} t bytes more tokens is ends h =
    record { read = spelled_token l t bytes more is ends ∙ ap (λ ts. cons_token t ts) h.read }

word_ends : (l : Language) (x more : List ℕ) → EndsWord more → EndsBefore l (token.Name x) more
word_ends l x [] h = tt
word_ends l x (b ∷ bs) h = h

keyword_ends : (l : Language) (k : Keyword) (more : List ℕ) → EndsWord more → EndsBefore l (token.Keyword k) more
keyword_ends l k [] h = tt
keyword_ends l k (b ∷ bs) h = h

number_ends : (l : Language) (n : ℕ) (more : List ℕ) → EndsWord more → EndsBefore l (token.Number n) more
number_ends l n [] h = tt
number_ends language.One n (b ∷ bs) h = (or_parts (begins_name b) (is_ascii_digit b) h).1
number_ends language.Two n (b ∷ bs) h = h

pub name_read : {l : Language} (x more : List ℕ) (tokens : List Token) → IsName l x → EndsWord more
    → IsReadAs l more tokens → IsReadAs l (x ++ more) (token.Name x ∷ tokens)
name_read {l} x more tokens is ends h =
    token_read (token.Name x) x more tokens (is, refl) (word_ends l x more ends) h

pub number_read : {l : Language} (n : ℕ) (more : List ℕ) (tokens : List Token) → n < 2 ^ 63 → EndsWord more
    → IsReadAs l more tokens → IsReadAs l (decimal n ++ more) (token.Number n ∷ tokens)
number_read {l} n more tokens small ends h =
    token_read (token.Number n) (decimal n) more tokens (decimal_spelled l n small) (number_ends l n more ends) h

pub mark_read : {l : Language} (m : Mark) (more : List ℕ) (tokens : List Token) → has_mark l m ≡ true
    → MarkEnds l m more → IsReadAs l more tokens → IsReadAs l (mark_bytes m ++ more) (token.Mark m ∷ tokens)
mark_read m more tokens has ends h = token_read (token.Mark m) (mark_bytes m) more tokens (has, refl) ends h

pub keyword_read : {l : Language} (k : Keyword) (more : List ℕ) (tokens : List Token) → has_keyword l k ≡ true
    → EndsWord more → IsReadAs l more tokens → IsReadAs l (keyword_bytes k ++ more) (token.Keyword k ∷ tokens)
keyword_read {l} k more tokens has ends h =
    token_read (token.Keyword k) (keyword_bytes k) more tokens (has, refl) (keyword_ends l k more ends) h

-- white space, and then what follows
white_read : {l : Language} (w : ℕ) (more : List ℕ) (tokens : List Token) → is_white_space w ≡ true
    → IsReadAs l more tokens → IsReadAs l (w ∷ more) tokens
white_read {l} w more tokens is h = record { read = white_dropped l w more is ∙ h.read }

pub space_read : {l : Language} (more : List ℕ) (tokens : List Token) → IsReadAs l more tokens
    → IsReadAs l (codes " " ++ more) tokens
space_read more tokens h = white_read 32 more tokens refl h

pub line_feed_read : {l : Language} (more : List ℕ) (tokens : List Token) → IsReadAs l more tokens
    → IsReadAs l (codes "\n" ++ more) tokens
line_feed_read more tokens h = white_read 10 more tokens refl h

pub indent_read : {l : Language} (level : ℕ) (more : List ℕ) (tokens : List Token) → IsReadAs l more tokens
    → IsReadAs l (indented level more) tokens
indent_read zero more tokens h = h
indent_read (suc level) more tokens h =
    space_read (codes " " ++ indented level more) tokens
    (space_read (indented level more) tokens (indent_read level more tokens h))
