use Rattle.std.proofs.Common.{◌≡◌, ℕ, ◌<◌, slice_get}
use Rattle.kpn_chan.specs.Chunks.{items_of}
use Rattle.kpn_chan.proofs.chunks.Chunks.has_items_of.Given as goal

abbrev pub invariant-items : goal.invariant-items
invariant-items g l = (k : ℕ) → k < l.place → slice_get (items_of l.self) k ≡ slice_get (items_of l.other) k
