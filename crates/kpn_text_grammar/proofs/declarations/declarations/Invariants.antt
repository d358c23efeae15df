-- What was read so far comes before what is still read.
use Rattle.kpn_text_grammar.proofs.Common.{◌-◌, length, declares, declaration, all_of, tokens_from, declarations_seen}
use Rattle.kpn_text_grammar.proofs.Rounds.{StandsAt}
use Rattle.kpn_text_grammar.proofs.declarations.declarations.Given as goal

abbrev pub invariant-declarations : goal.invariant-declarations
invariant-declarations l =
    StandsAt declares (λ i. declaration l.source.scope) (declarations_seen l.found.items) (length l.found.items)
    (tokens_from l.source l.place) (all_of declares (declaration l.source.scope) (tokens_from l.source l.at))

abbrev pub decreases-declarations : goal.decreases-declarations
decreases-declarations l = length l.source.tokens.now - l.place
