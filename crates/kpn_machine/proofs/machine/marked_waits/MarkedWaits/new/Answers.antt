use Rattle.kpn_machine.proofs.Marking.{marked_at_start}
use Rattle.kpn_machine.proofs.machine.marked_waits.MarkedWaits.new.Goals as goal

pub invariant_of-result : goal.invariant_of-result
invariant_of-result g c =
    rw c.in_ok-waits.ensures (marked_at_start c.args.processes c.in_ok-full.full.items c.in_ok-empty.empty.items)
