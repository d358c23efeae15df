-- Which language a text is of: its first three tokens tell it, which both languages read alike.
use Rattle.std.specs.Prelude.{ℕ, zero, suc, ◌-◌, Bool, true, false, ◌==◌, if◌then◌else◌, List, [], ◌∷◌, codes, drop, Option, Some, None}
use Rattle.std.specs.Str.{bytes_eq}
use Rattle.kpn_text_tokens.specs.declared.lexer.Piece.{Piece}
use Rattle.kpn_text_tokens.specs.declared.lexer.Piece.TheVariants as piece
use Rattle.kpn_text_tokens.specs.declared.opening.Part.{Part}
use Rattle.kpn_text_tokens.specs.declared.opening.Part.TheVariants as part
use Rattle.kpn_text_tokens.specs.declared.tokens.Language.{Language}
use Rattle.kpn_text_tokens.specs.declared.tokens.Language.TheVariants as language
use Rattle.kpn_text_tokens.specs.declared.tokens.Mark.TheVariants as mark
use Rattle.kpn_text_tokens.specs.declared.tokens.Token.{Token}
use Rattle.kpn_text_tokens.specs.declared.tokens.Token.TheVariants as token
use Rattle.kpn_text_tokens.specs.Lexing.{piece_of}

-- the token that a piece is and the text behind it, or what is found behind white space or a comment
abbrev pub first_of : Piece → List ℕ → (ℕ → Option (Token × List ℕ)) → Option (Token × List ℕ)
first_of (piece.Gap n) bs further = further (n - 1)
first_of (piece.Token t n) bs further = Some (t, drop (n - 1) bs)
first_of piece.NoToken bs further = None
first_of piece.LongName bs further = None

-- The first token of a text as language 1 reads it, and the text behind it; nothing if there is none. The first
-- `inside` bytes of the text belong to the piece before it and are passed over.
abbrev pub first_token : ℕ → List ℕ → Option (Token × List ℕ)
first_token inside [] = None
first_token (suc inside) (b ∷ bs) = first_token inside bs
first_token zero (b ∷ bs) = first_of (piece_of language.One b (b ∷ bs)) bs (λ inside. first_token inside bs)

-- the token is this part of `language 2;`: the name, a number of that value, however it is written, the mark
abbrev pub is_part : Part → Token → Bool
is_part part.Word (token.Name name) = bytes_eq name (codes "language")
is_part part.Two (token.Number value) = value == 2
is_part part.Semicolon (token.Mark mark.Semicolon) = true
is_part _ _ = false

abbrev pub behind_first : Part → Option (Token × List ℕ) → Option (List ℕ)
behind_first p (Some first) = if is_part p first.0 then Some first.1 else None
behind_first p None = None

-- the text behind its first token, if that is this part
abbrev pub behind : Part → List ℕ → Option (List ℕ)
behind p text = behind_first p (first_token 0 text)

-- the text behind this part, if it follows what was there
abbrev pub then_behind : Part → Option (List ℕ) → Option (List ℕ)
then_behind p (Some text) = behind p text
then_behind p None = None

abbrev pub language_if : Option (List ℕ) → Language
language_if (Some rest) = language.Two
language_if None = language.One

-- a text is of language 2 if its first three tokens are these parts, and else of language 1
unfoldable pub language_of : List ℕ → Language
language_of text = language_if (then_behind part.Semicolon (then_behind part.Two (behind part.Word text)))
