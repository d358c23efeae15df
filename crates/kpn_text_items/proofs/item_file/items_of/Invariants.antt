-- The lines before the rest spell the items so far; each turn takes a line off the rest.
use Rattle.std.proofs.Common.{length}
use Rattle.kpn_text_items.proofs.FileLemmas.{HasTaken}
use Rattle.kpn_text_items.proofs.item_file.items_of.Given as goal

abbrev pub invariant-loop-rest : goal.invariant-loop-rest
invariant-loop-rest l = HasTaken l.bytes l.rest l.items.items

abbrev pub decreases-loop-rest : goal.decreases-loop-rest
decreases-loop-rest l = length l.rest
