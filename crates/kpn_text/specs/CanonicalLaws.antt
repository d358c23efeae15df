-- How the canonical text is read: its tokens are the spelling of the tree.
use Rattle.std.specs.Prelude.{◌≡◌, ℕ, false, ◌||◌, List, [], ◌∷◌, length, Some, Ok}
use Rattle.std.specs.Char.{is_ascii_digit}
use Rattle.kpn_text_tokens.specs.declared.tokens.Language.{Language}
use Rattle.kpn_text_tokens.specs.declared.tokens.Token.{Token}
use Rattle.kpn_text_tokens.specs.Laws.{tokens_of}
use Rattle.kpn_text_tokens.specs.declared.tokens.Lexeme.{Lexeme}
use Rattle.kpn_text_tokens.specs.Lexing.{begins_name, lexemes_of}
use Rattle.kpn_text_tokens.specs.Opening.{language_of}
use Rattle.kpn_text_expand.specs.Expanding.{expanded}
use Rattle.kpn_text_grammar.specs.Syntax.{ExpressionNode, Statements, ProcessNode, Description}
use Rattle.kpn_text_grammar.specs.Spelling.{spell_expression, spell_statements, spell_process, spell_description, IsDescription, kinds}
use Rattle.kpn_text.specs.Proper.{IsProperTerm, AreProper, IsProperProcess, IsProper}
use Rattle.kpn_text.specs.Text.{whole_text, statements_text, process_text, description_text}

-- the text does not go on with a letter, a digit or `_`
abbrev pub EndsWord : List ℕ → Type 0
EndsWord [] = Unit {0}
EndsWord (b ∷ bs) = (begins_name b || is_ascii_digit b) ≡ false

-- An expression that no letter, digit or `_` follows is read as its spelling, and then what follows it.
abbrev pub TermIsRead : Type 0
TermIsRead =
    (l : Language) (e : ExpressionNode) (more : List ℕ) (tokens : List Token) → IsProperTerm l e → EndsWord more
    → tokens_of l more ≡ Some tokens → tokens_of l (whole_text l e more) ≡ Some (spell_expression l e tokens)

-- Statements are read as their spelling, and then what follows them.
abbrev pub StatementsAreRead : Type 0
StatementsAreRead =
    (l : Language) (level : ℕ) (ss : Statements) (more : List ℕ) (tokens : List Token) → AreProper l ss
    → tokens_of l more ≡ Some tokens
    → tokens_of l (statements_text l level ss more) ≡ Some (spell_statements l ss tokens)

-- A process is read as its spelling, and then what follows it.
abbrev pub ProcessIsRead : Type 0
ProcessIsRead =
    (l : Language) (p : ProcessNode) (more : List ℕ) (tokens : List Token) → IsProperProcess l p
    → tokens_of l more ≡ Some tokens → tokens_of l (process_text l p more) ≡ Some (spell_process l p tokens)

-- A printed description is read as its spelling.
abbrev pub DescriptionIsRead : Type 0
DescriptionIsRead =
    (l : Language) (d : Description) → IsProper l d → tokens_of l (description_text l d) ≡ Some (spell_description l d)

-- A printed description is of the language in which it is printed.
abbrev pub LanguageIsTold : Type 0
LanguageIsTold = (l : Language) (d : Description) → language_of (description_text l d) ≡ l

-- A description that the tokens of a text stand for is proper.
abbrev pub ReadDescriptionsAreProper : Type 0
ReadDescriptionsAreProper =
    (l : Language) (text : List ℕ) (read tokens : List Lexeme) (d : Description) → lexemes_of l text ≡ Ok read
    → expanded l (length text) read ≡ Ok tokens → IsDescription l (kinds tokens) d → IsProper l d
