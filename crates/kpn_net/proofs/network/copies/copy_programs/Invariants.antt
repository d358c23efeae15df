-- The copies so far are the programs so far.
use Rattle.std.proofs.Common.{◌≡◌, take}
use Rattle.kpn_net.proofs.network.copies.copy_programs.Given as goal

abbrev pub invariant-loop-program : goal.invariant-loop-program
invariant-loop-program l = l.copies.items ≡ take l.program-index l.programs
