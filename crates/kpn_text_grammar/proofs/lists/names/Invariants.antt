-- What was read so far comes before what is still read.
use Rattle.kpn_text_grammar.proofs.Common.{◌-◌, length, is_mark, further, name, separated, tokens_from, names_seen}
use Rattle.kpn_text_tokens.specs.declared.tokens.Mark.TheVariants as mark_
use Rattle.kpn_text_grammar.proofs.Rounds.{StandsAt}
use Rattle.kpn_text_grammar.proofs.lists.names.Given as goal

abbrev pub invariant-names : goal.invariant-names
invariant-names l =
    StandsAt (is_mark mark_.Comma) (λ i. further l.source.scope (name l.source.scope)) (names_seen l.found.items)
    (length l.found.items) (tokens_from l.source l.place) (separated l.source.scope (name l.source.scope)
    (tokens_from l.source l.at))

abbrev pub decreases-names : goal.decreases-names
decreases-names l = length l.source.tokens.now - l.place
