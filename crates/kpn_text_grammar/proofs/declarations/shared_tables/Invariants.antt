-- What was read so far comes before what is still read.
use Rattle.kpn_text_grammar.proofs.Common.{◌-◌, length, is_keyword, shared_table, all_of, tokens_from, tables_seen}
use Rattle.kpn_text_tokens.specs.declared.tokens.Keyword.TheVariants as keyword_
use Rattle.kpn_text_grammar.proofs.Rounds.{StandsAt}
use Rattle.kpn_text_grammar.proofs.declarations.shared_tables.Given as goal

abbrev pub invariant-tables : goal.invariant-tables
invariant-tables l =
    StandsAt (is_keyword keyword_.Table) (λ i. shared_table l.source.scope) (tables_seen l.found.items) (length l.found.items)
    (tokens_from l.source l.place) (all_of (is_keyword keyword_.Table) (shared_table l.source.scope)
    (tokens_from l.source l.at))

abbrev pub decreases-tables : goal.decreases-tables
decreases-tables l = length l.source.tokens.now - l.place
