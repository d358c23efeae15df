use Rattle.kpn_machine.proofs.Joining.{waits_between, woken_by_batch}
use Rattle.kpn_machine.proofs.machine.marked_waits.MarkedWaits.wake_by_batch.Goals as goal

pub wake_writer_if-requires-clause-waits : goal.wake_writer_if-requires-clause-waits
wake_writer_if-requires-clause-waits g c =
    waits_between c.args.network.now c.args.c c.args.put c.args.self.now c.wake_reader_if.new.self c.requires.waits
    c.wake_reader_if.ensures

pub returns : goal.returns
returns g c =
    let made =
    woken_by_batch c.args.network.now c.args.c c.args.taken c.args.put c.args.self.now c.wake_reader_if.new.self
    c.wake_writer_if.new.self c.requires.waits c.wake_reader_if.ensures c.wake_writer_if.ensures in
    record { woken = made.woken; waits = made.waits }
