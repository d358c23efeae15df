-- The tries so far took nothing.
use Rattle.std.specs.Io.KnownBytes.{Keeps}
use Rattle.kpn_shelf.proofs.patient.PatientRead.read.Given as goal

abbrev pub invariant-loop-attempt : goal.invariant-loop-attempt
invariant-loop-attempt g l = Keeps (g.T.Read.remaining l.fn.self.inner) (g.T.Read.remaining l.self.inner)
