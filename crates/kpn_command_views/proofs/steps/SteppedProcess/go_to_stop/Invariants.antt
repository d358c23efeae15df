-- The frame stays one of the program.
use Rattle.std.proofs.Common.{IsTrue}
use Rattle.kpn_step.specs.Frame.{fits}
use Rattle.kpn_command_views.proofs.steps.SteppedProcess.go_to_stop.Given as goal

abbrev pub invariant-parts : goal.invariant-parts
invariant-parts l = IsTrue (fits l.program l.self.frame)
