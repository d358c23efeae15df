-- The files so far spell lists, and each of these stands in the place of its source.
use Rattle.kpn_command_base.proofs.Common.{◌≡◌, length, map, take, AreGiven}
use Rattle.kpn_command_base.proofs.sources.lists_of.Given as goal

abbrev pub invariant-loop-end : goal.invariant-loop-end
invariant-loop-end g l = record {
  given : AreGiven (g.S.Shelf.may_give l.shelf) l.count (map (λ e. e.number) (take l.end-index l.named))
      (map (λ e. e.file.now) (take l.end-index l.named)) l.lists.items;
  length : length l.lists.items ≡ l.count;
}
