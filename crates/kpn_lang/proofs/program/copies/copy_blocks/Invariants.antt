-- The copies so far are equal to the blocks so far.
use Rattle.kpn_lang.proofs.Common.{◌≡◌, take, blocks_of}
use Rattle.kpn_lang.proofs.program.copies.copy_blocks.Given as goal

abbrev pub invariant-loop-block : goal.invariant-loop-block
invariant-loop-block l = blocks_of l.copies.items ≡ blocks_of (take l.block-index l.blocks)
