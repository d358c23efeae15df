-- The bytes kept are what the reader has lost, and there is room for them within the limit. Each turn takes at least
-- one byte of that room.
use Rattle.kpn_text_items.proofs.Common.{◌-◌, ◌≤◌, vec_len, Consumes}
use Rattle.kpn_text_items.proofs.input.read_up_to.Given as goal

abbrev pub invariant-loop-count : goal.invariant-loop-count
invariant-loop-count g l =
    Consumes (g.R.Read.remaining l.fn.reader) (g.R.Read.remaining l.reader) l.bytes.items × (vec_len l.bytes ≤ l.limit)

abbrev pub decreases-loop-count : goal.decreases-loop-count
decreases-loop-count g l = l.limit - vec_len l.bytes
