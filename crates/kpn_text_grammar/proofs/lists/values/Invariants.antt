-- What was read so far comes before what is still read.
use Rattle.kpn_text_grammar.proofs.Common.{◌-◌, length, is_mark, further, literal, separated, tokens_from, values_seen}
use Rattle.kpn_text_tokens.specs.declared.tokens.Mark.TheVariants as mark_
use Rattle.kpn_text_grammar.proofs.Rounds.{StandsAt}
use Rattle.kpn_text_grammar.proofs.lists.values.Given as goal

abbrev pub invariant-values : goal.invariant-values
invariant-values l =
    StandsAt (is_mark mark_.Comma) (λ i. further l.source.scope (literal l.source.scope)) (values_seen l.found.items)
    (length l.found.items) (tokens_from l.source l.place) (separated l.source.scope (literal l.source.scope)
    (tokens_from l.source l.at))

abbrev pub decreases-values : goal.decreases-values
decreases-values l = length l.source.tokens.now - l.place
