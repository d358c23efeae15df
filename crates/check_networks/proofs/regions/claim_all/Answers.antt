use Rattle.std.proofs.Common.{length, ap, sym, ◌∙◌, arith}
use Rattle.kpn_net.proofs.Networks.{IsInstance-of}
use Rattle.check_networks.proofs.regions.claim_all.Goals as goal

pub try_start-requires : goal.try_start-requires
try_start-requires c =
    ap length c.pars.ensures
    ∙ (IsInstance-of c.args.network.now c.known.ensures c.processes.p
    (omega (arith, c.instances-p-end.ensures, c.processes-test.true))).pars
    ∙ sym (ap (λ x. x.pars) c.program.ensures)
