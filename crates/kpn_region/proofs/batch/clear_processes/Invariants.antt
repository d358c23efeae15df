use Rattle.kpn_region.proofs.Common.{◌≡◌, ℕ, ◌<◌, ◌≤◌, false, replicate, take, length, get_or, None, no_frame}
use Rattle.kpn_region.proofs.batch.clear_processes.Given as goal

abbrev pub invariant-processes : goal.invariant-processes
invariant-processes g l = record {
  withins : length l.within.items ≡ length l.fn.within.items;
  lens : length l.stops.items ≡ length l.fn.within.items;
  framed : length l.frames.items ≡ length l.fn.within.items;
  within : take l.p l.within.items ≡ replicate l.p false;
  stops : take l.p l.stops.items ≡ replicate l.p None;
  frames : take l.p l.frames.items ≡ take l.p l.first.items;
  sizes : (k : ℕ) → k < length l.fn.within.items
      → length (get_or l.first.items k no_frame).variables ≡ length (get_or l.frames.items k no_frame).variables;
  outside : (k : ℕ) → l.p ≤ k → get_or l.within.items k false ≡ false
      → get_or l.frames.items k no_frame ≡ get_or l.first.items k no_frame;
}
