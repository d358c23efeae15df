-- What was read so far comes before what is still read.
use Rattle.kpn_text_grammar.proofs.Common.{◌-◌, length, stands_in_block, item, all_of, tokens_from, items_seen}
use Rattle.kpn_text_grammar.proofs.Rounds.{StandsAt}
use Rattle.kpn_text_grammar.proofs.networks.items.Given as goal

abbrev pub invariant-items : goal.invariant-items
invariant-items l =
    StandsAt (stands_in_block) (λ i. item l.source.scope) (items_seen l.found.items) (length l.found.items)
    (tokens_from l.source l.place) (all_of stands_in_block (item l.source.scope) (tokens_from l.source l.at))

abbrev pub decreases-items : goal.decreases-items
decreases-items l = length l.source.tokens.now - l.place
