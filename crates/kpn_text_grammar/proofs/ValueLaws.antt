-- Values with commas between them.
use Rattle.kpn_text_grammar.proofs.Common.{List, refl, sym, Token, Scope, Literal, plain, negated, spell_list, spell_literal}
use Rattle.kpn_text_tokens.specs.declared.tokens.Token.TheVariants as token
use Rattle.kpn_text_tokens.specs.declared.tokens.Mark.TheVariants as mark_
use Rattle.kpn_text_grammar.specs.Reading.{literal_behind, literal, separated}
use Rattle.kpn_text_grammar.proofs.Lookahead.{Anything}
use Rattle.kpn_text_grammar.proofs.Readers.{Reads, Free, Unless, done, value, a_number, Arms, arm, no_arm, Begun, by_token, Exactly, exactly, Some_of, some_of, is_comma, with_commas}

literal_arms : (s : Scope) → Arms s (Exactly spell_literal Free) Anything literal_behind
unfolding literal_behind
literal_arms s (token.Number n) = arm (λ start. done (plain n)) (λ z more within. (tt, refl))
literal_arms s (token.Mark mark_.Minus) =
    arm (λ start. value (a_number s) (λ n. done (negated n))) (λ z more within. (tt, refl))
literal_arms s _ = no_arm

literal_parts : (s : Scope) (v : Literal) (tokens more : List Token) → Exactly spell_literal Free v tokens more
    → Begun (literal_arms s) v tokens more
unfolding literal_arms
literal_parts s (plain n) tokens more is = ((token.Number n, tt), refl, tt, sym is.1)
literal_parts s (negated n) tokens more is = ((token.Mark mark_.Minus, (n, tt)), refl, (tt, tt), sym is.1)

pub literal_reads : (s : Scope) → Reads s spell_literal Free Anything literal
unfolding literal literal_arms
literal_reads s = exactly (by_token s (literal_arms s) (token.Number 1) tt (literal_parts s))

pub values_reads : (s : Scope) → Reads s (spell_list spell_literal) Some_of (Unless is_comma)
    (λ s. separated s (literal s))
values_reads s = some_of (with_commas s (literal_reads s))
