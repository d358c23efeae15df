use Rattle.std.proofs.Common.{◌<◌, length, sym, subst}
use Rattle.kpn_machine.proofs.Marking.{marked_empty}
use Rattle.kpn_machine.proofs.machine.marked_waits.MarkedWaits.wait_on_empty.Goals as goal

pub invariant_of-self : goal.invariant_of-self
invariant_of-self g c =
    rw (c.set.ensures, c.set_mark.ensures)
    (marked_empty c.self.inside.waits c.self.inside.full.items c.self.inside.empty.items c.self.invariant c.args.p
    (subst (λ s. c.args.p < length s) (sym c.self.view_is) c.requires) c.args.c)
