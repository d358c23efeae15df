use Rattle.kpn_machine.proofs.Common.{length, sym, ap, ◌∙◌, subst, AreWaits}
use Rattle.kpn_machine.proofs.Mirror.{mirror_length}
use Rattle.kpn_machine.proofs.machine.Machine.smallest_waited.Goals as goal

pub smallest_waited-requires-clause-waits : goal.smallest_waited-requires-clause-waits
smallest_waited-requires-clause-waits g c =
    subst (AreWaits c.args.network.now) (sym (c.table.ensures ∙ ap (λ s. s.waits) c.self.view_is))
    c.requires.shape.waits

pub smallest_waited-requires-clause-caps : goal.smallest_waited-requires-clause-caps
smallest_waited-requires-clause-caps g c =
    ap length c.as_slice.ensures.value
    ∙ mirror_length c.self.inside.channels.items c.self.inside.capacities.items c.self.invariant
    ∙ ap (λ s. length s.channels) c.self.view_is ∙ c.requires.shape.channels
