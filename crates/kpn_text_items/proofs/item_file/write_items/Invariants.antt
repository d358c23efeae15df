-- The writer has taken the text of the items before the index.
use Rattle.kpn_text_items.proofs.Common.{take, Appends, item_text}
use Rattle.kpn_text_items.proofs.item_file.write_items.Given as goal

abbrev pub invariant-loop-item : goal.invariant-loop-item
invariant-loop-item g l =
    Appends (g.W.Write.contents l.initial.writer) (g.W.Write.contents l.writer) (item_text (take l.item-index l.items))
