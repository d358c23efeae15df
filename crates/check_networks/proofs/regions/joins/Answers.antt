use Rattle.std.proofs.Common.{subst, sym}
use Rattle.kpn_machine.specs.Machine.{IsMachine}
use Rattle.check_networks.proofs.regions.joins.Goals as goal

pub agrees_with-is_refused-requires : goal.agrees_with-is_refused-requires
agrees_with-is_refused-requires g c =
    subst (λ t. IsMachine t c.make_ready.new.machine) (sym c.plays.ensures) c.make_ready.ensures

pub agrees_with-requires : goal.agrees_with-requires
agrees_with-requires g c =
    subst (λ t. IsMachine t c.make_ready-2.new.machine) (sym c.plays.ensures) c.make_ready-2.ensures

pub join-requires-clause-shape : goal.join-requires-clause-shape
join-requires-clause-shape g c =
    subst (λ t. IsMachine t c.make_ready-2.new.machine) (sym c.plays.ensures) c.make_ready-2.ensures
