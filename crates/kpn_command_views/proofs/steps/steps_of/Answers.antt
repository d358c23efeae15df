-- An instance of a network has as many values as its process has parameters.
use Rattle.kpn_command_views.proofs.Common.{length, ap, sym, ◌∙◌, arith, IsInstance-of}
use Rattle.kpn_command_views.proofs.steps.steps_of.Goals as goal

pub try_start-requires : goal.try_start-requires
try_start-requires c =
    ap length c.pars.ensures
    ∙ (IsInstance-of c.args.network.now c.known.ensures c.loop-p.p (omega (arith, c.instances-p-end.ensures))).pars
    ∙ sym (ap (λ x. x.pars) c.program.ensures)
