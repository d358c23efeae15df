-- The tries so far gave nothing.
use Rattle.std.specs.Io.KnownBytes.{Keeps}
use Rattle.kpn_shelf.proofs.patient.PatientWrite.write.Given as goal

abbrev pub invariant-loop-attempt : goal.invariant-loop-attempt
invariant-loop-attempt g l = Keeps (g.T.Write.contents l.fn.self.inner) (g.T.Write.contents l.self.inner)
