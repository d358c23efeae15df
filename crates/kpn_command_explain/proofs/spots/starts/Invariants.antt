-- What was found so far and what the remaining tokens give are what all give.
use Rattle.std.proofs.Common.{◌≡◌, ◌++◌, drop}
use Rattle.kpn_command_explain.specs.Spots.{starts_from, starts_of}
use Rattle.kpn_command_explain.proofs.spots.starts.Given as goal

abbrev pub invariant-loop-lexeme : goal.invariant-loop-lexeme
invariant-loop-lexeme l =
    l.found.items ++ starts_from l.wanted l.now (drop l.lexeme-index l.tokens) ≡ starts_of l.wanted l.tokens
