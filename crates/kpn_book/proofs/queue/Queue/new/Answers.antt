-- One number more, and at the end all of them.
use Rattle.std.proofs.Common.{◌+◌, [], ◌∷◌, ◌++◌, ap, sym, ◌∙◌, arith}
use Rattle.kpn_book.proofs.Queueing.{range_next}
use Rattle.kpn_book.proofs.queue.Queue.new.Goals as goal

pub loop-p-preserved : goal.loop-p-preserved
loop-p-preserved g c = record {
  items =
      c.push_reserved.ensures.items
      ∙ ap (λ xs. xs ++ c.loop-p.p ∷ []) c.loop-p.invariant.items
      ∙ sym (range_next c.loop-p.p);
  len = c.push_reserved.ensures.len ∙ ap (λ n. n + 1) c.loop-p.invariant.len;
  room = omega (arith, c.push_reserved.ensures.capacity, c.loop-p.invariant.room);
}
