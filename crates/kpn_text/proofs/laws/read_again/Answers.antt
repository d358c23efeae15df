-- By the laws of the blocks, of limits and of the canonical text.
use Rattle.kpn_text.proofs.RoundTrip.{printed_spells}
use Rattle.kpn_text.proofs.laws.read_again.Goals as goal

pub returns : goal.returns
returns c =
    printed_spells c.blocks_are_the_tree.ensures c.capacities_are_in_range.ensures.limit
    c.canonical_spells.ensures c.description_is_read.ensures c.language_is_told.ensures
    c.read_descriptions_are_proper.ensures
