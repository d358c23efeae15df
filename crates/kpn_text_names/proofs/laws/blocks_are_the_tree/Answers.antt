-- By induction on the tree.
use Rattle.kpn_text_names.proofs.Trees.{blocks_are_the_tree}
use Rattle.kpn_text_names.proofs.laws.blocks_are_the_tree.Goals as goal

pub returns : goal.returns
returns c = blocks_are_the_tree
