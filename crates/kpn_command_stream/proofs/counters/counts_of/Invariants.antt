-- The channels so far.
use Rattle.kpn_command_stream.proofs.Common.{◌≡◌, length, AreCounted}
use Rattle.kpn_command_stream.proofs.counters.counts_of.Given as goal

abbrev pub invariant-loop-c : goal.invariant-loop-c
invariant-loop-c l = AreCounted l.book l.counts.items × (length l.counts.items ≡ l.c)
