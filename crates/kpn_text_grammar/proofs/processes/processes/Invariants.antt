-- What was read so far comes before what is still read.
use Rattle.kpn_text_grammar.proofs.Common.{◌-◌, length, is_keyword, numbered_process, processes, tokens_from, processes_seen}
use Rattle.kpn_text_tokens.specs.declared.tokens.Keyword.TheVariants as keyword_
use Rattle.kpn_text_grammar.proofs.Rounds.{StandsAt}
use Rattle.kpn_text_grammar.proofs.processes.processes.Given as goal

abbrev pub invariant-processes : goal.invariant-processes
invariant-processes l =
    StandsAt (is_keyword keyword_.Process) (numbered_process l.source.scope) (processes_seen l.found.items)
    (length l.found.items) (tokens_from l.source l.place) (processes l.source.scope (tokens_from l.source l.at))

abbrev pub decreases-processes : goal.decreases-processes
decreases-processes l = length l.source.tokens.now - l.place
