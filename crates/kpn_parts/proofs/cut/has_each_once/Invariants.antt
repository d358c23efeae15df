use Rattle.std.proofs.Common.{◌≡◌, length}
use Rattle.kpn_parts.proofs.Cuts.{AreSeen}
use Rattle.kpn_parts.proofs.cut.has_each_once.Given as goal

abbrev pub invariant-loop-r : goal.invariant-loop-r
invariant-loop-r l = AreSeen l.parts l.r 0 l.seen.items × (length l.seen.items ≡ length l.whole.instances)

abbrev pub invariant-loop-p : goal.invariant-loop-p
invariant-loop-p l = AreSeen l.parts l.r l.p l.seen.items × (length l.seen.items ≡ length l.whole.instances)
