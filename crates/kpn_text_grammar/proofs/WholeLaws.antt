-- Expressions of statements in both languages: what is read is spelled so, and what is spelled so is read again.
use Rattle.kpn_text_grammar.proofs.Common.{◌≡◌, subst, sym, ◌-◌, ◌<◌, ◌≤◌, List, ◌∷◌, arith, MAX_LEVELS, Language, Token, Scope, LOOSEST, OPERAND, loosest, ExpressionNode, spell_expression, term_level, SpellsTerm}
use Rattle.kpn_text_tokens.specs.declared.tokens.Language.TheVariants as language
use Rattle.kpn_text_grammar.specs.Reading.{whole}
use Rattle.kpn_text_grammar.proofs.Lookahead.{lower}
use Rattle.kpn_text_grammar.proofs.Readers.{ReaderBy, HasRoom, given}
use Rattle.kpn_text_grammar.proofs.TightReads.{canonical_tight, canonical_term, tight_reads}
use Rattle.kpn_text_grammar.proofs.TightLaws.{first_tightness, some_loosest, below_loosest}

-- an expression of a statement
abbrev pub Expression : Scope → ExpressionNode → List Token → List Token → Type 0
Expression s e tokens more = SpellsTerm s.levels s.language e tokens more × (term_level e ≤ s.levels)

-- what follows binds looser
abbrev pub Over : Language → List Token → Type 0
Over l more = first_tightness more < loosest l

pub is_over : (l : Language) (t : Token) (more : List Token) → first_tightness (t ∷ more) ≡ 0 → Over l (t ∷ more)
is_over l t more h = omega (arith, h, some_loosest l)

pub expression_of : {ok : Type 0} (s : Scope) → (ok → HasRoom s)
    → ReaderBy s.end ok (Expression s) (Over s.language) (whole (lower s)) (whole s)
unfolding whole
expression_of s has =
    given (tight_reads s s.levels (s.levels - 1) (s.levels - 1) s.levels (loosest s.language)
    (below_loosest s.language)) (λ so. record {
      deeper = omega (arith, has so);
      higher = omega (arith, has so);
      first = λ one. omega arith;
      tight = λ one. subst (λ (l : Language). OPERAND ≤ loosest l) (sym one) (omega arith);
    })

-- the canonical spelling is one, if there is one
pub canonical_expression : (l : Language) (e : ExpressionNode) (more : List Token) → term_level e ≤ MAX_LEVELS
    → {tokens others : List Token} → SpellsTerm MAX_LEVELS l e tokens others
    → SpellsTerm MAX_LEVELS l e (spell_expression l e more) more
canonical_expression language.One e more level h = canonical_term h MAX_LEVELS OPERAND more level
canonical_expression language.Two e more level h = canonical_tight e MAX_LEVELS LOOSEST more level
