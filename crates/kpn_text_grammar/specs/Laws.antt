-- The laws of reading, on which the layers above depend: reading returns what is spelled, and that is one thing. What
-- is printed is spelled.
use Rattle.std.specs.Prelude.{◌≡◌, ◌↔◌, ◌≤◌, ℕ, suc, List, [], ◌∷◌, ◌++◌, take, Ok}
use Rattle.std.specs.List.{AllByRecursion}
use Rattle.kpn_limits.specs.declared.TheConstants.{MAX_LEVELS}
use Rattle.kpn_text_tokens.specs.declared.tokens.Language.{Language}
use Rattle.kpn_text_tokens.specs.declared.tokens.Lexeme.{Lexeme}
use Rattle.kpn_text_tokens.specs.declared.tokens.Token.{Token}
use Rattle.kpn_text_grammar.specs.Syntax.{Description, Statements}
use Rattle.kpn_text_grammar.specs.Spelling.{kinds, spell_description, SpellsStatements, IsWithinLimits, IsDescriptionWithin, IsDescription}
use Rattle.kpn_text_grammar.specs.Reading.{description_of}

-- Tokens are read as a description if and only if they spell it within the limits, wherever they are in the text.
abbrev pub ReadWhereSpelled : Type 0
ReadWhereSpelled = (l : Language) (end : ℕ) (ls : List Lexeme) (d : Description)
    → (description_of l end ls ≡ Ok d) ↔ IsDescription l (kinds ls) d

-- Tokens spell one description of a language at most.
abbrev pub SpelledOnce : Type 0
SpelledOnce =
    (l : Language) (tokens : List Token) (d e : Description) → IsDescription l tokens d → IsDescription l tokens e
    → d ≡ e

-- Some tokens spell a block. In language 1 none do if it has an operator that is called.
abbrev pub CanBeSpelled : Language → Statements → Type 0
CanBeSpelled l b = (tokens : List Token) × (more : List Token) × SpellsStatements MAX_LEVELS l b tokens more

-- The canonical spelling of a description within the limits spells it, if its blocks can be spelled at all.
abbrev pub CanonicalSpells : Type 0
CanonicalSpells =
    (l : Language) (d : Description) → IsWithinLimits MAX_LEVELS d
    → AllByRecursion (λ p. CanBeSpelled l p.body) d.processes → IsDescription l (spell_description l d) d

-- the byte of a fault in front of these tokens: where the first one begins, or the length of the text
abbrev pub fault_place : ℕ → List Lexeme → ℕ
fault_place end [] = end
fault_place end (l ∷ ls) = l.start

-- A fault stands in front of the rest of the tokens, at the first one that may not be there. Those before it begin a
-- description, which has one level more than it may have at most. With the one there they begin none, however deep it
-- nests. If none is there, they are none.
pub record IsFaultAt (l : Language) (end : ℕ) (ls : List Lexeme) (at : ℕ) : Type 0 where
  pub before : List Lexeme
  pub rest : List Lexeme
  pub parts : ls ≡ before ++ rest
  pub place : at ≡ fault_place end rest
  pub none : (levels : ℕ) (others : List Token) (d : Description) → MAX_LEVELS ≤ levels
      → take 1 others ≡ take 1 (kinds rest) → IsDescriptionWithin levels l (kinds before ++ others) d → ⊥
  pub some : (others : List Token) × (d : Description) × IsDescriptionWithin (suc MAX_LEVELS) l (kinds before ++ others) d
