use Rattle.kpn_stream.proofs.Common.{ℕ, ◌<◌, get_or, IsUnwanted}
use Rattle.kpn_stream.proofs.reading.least_open.Given as goal

abbrev pub invariant-sources : goal.invariant-sources
invariant-sources l = (j : ℕ) → j < l.i → IsUnwanted l.book (get_or l.ends.sources.items j 0)
