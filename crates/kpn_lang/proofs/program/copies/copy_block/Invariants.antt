-- The copy so far is equal to the statements so far.
use Rattle.kpn_lang.proofs.Common.{◌≡◌, take, statements_of}
use Rattle.kpn_lang.proofs.program.copies.copy_block.Given as goal

abbrev pub invariant-loop-stmt : goal.invariant-loop-stmt
invariant-loop-stmt l = statements_of l.copy.items ≡ statements_of (take l.stmt-index l.block)
