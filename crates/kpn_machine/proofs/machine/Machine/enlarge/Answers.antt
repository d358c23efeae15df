use Rattle.std.proofs.Common.{ap}
use Rattle.kpn_machine.proofs.Mirror.{mirror_grows}
use Rattle.kpn_machine.proofs.machine.Machine.enlarge.Goals as goal

pub invariant_of-self : goal.invariant_of-self
invariant_of-self g c =
    mirror_grows c.self.inside.channels.items c.self.inside.capacities.items c.args.d c.args.cap
    c.grow_reserved_to.new.self c.self.invariant (ap (λ x. x.capacity) c.grow_reserved_to.ensures)
