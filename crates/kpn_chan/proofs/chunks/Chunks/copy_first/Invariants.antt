use Rattle.std.specs.Prelude.{◌≡◌, ◌≤◌, ◌-◌, length, take}
use Rattle.kpn_chan.specs.Chunks.{items_of}
use Rattle.kpn_chan.proofs.chunks.Chunks.copy_first.Given as goal

abbrev pub invariant-loop-items : goal.invariant-loop-items
invariant-loop-items g l =
    (l.items.items ≡ take (length l.items.items) (items_of l.fn.self)) × (length l.items.items ≤ l.fn.count)

abbrev pub decreases-loop-items : goal.decreases-loop-items
decreases-loop-items g l = l.fn.count - length l.items.items
