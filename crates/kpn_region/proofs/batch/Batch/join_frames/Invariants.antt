use Rattle.kpn_region.specs.JoiningParts.{JoinsFrames}
use Rattle.kpn_region.proofs.batch.Batch.join_frames.Given as goal

abbrev pub invariant-processes : goal.invariant-processes
invariant-processes g l = JoinsFrames l.self l.p l.fn.machine l.machine
