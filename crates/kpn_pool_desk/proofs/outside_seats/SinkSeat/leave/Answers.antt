use Rattle.kpn_machine.specs.Machine.{channel_in}
use Rattle.kpn_pool_desk.proofs.Keeping.{leaves, still_desk}
use Rattle.kpn_pool_desk.proofs.outside_seats.SinkSeat.leave.Goals as goal

pub invariant_of-desk-2 : goal.invariant_of-desk-2
invariant_of-desk-2 g c =
    let b = c.desk.inside.book in
    let same =
    leaves (channel_in b.machine c.self.inside.channel).is_retired c.self.inside.channel b c.leave_sink.new.self
    c.in_ok-leave_sink.ensures.done.leaves in
    still_desk c.desk.invariant c.leave_sink.new.self c.known.ensures same
