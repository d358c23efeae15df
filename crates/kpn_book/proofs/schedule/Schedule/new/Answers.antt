use Rattle.kpn_book.proofs.Common.{length-replicate, Ready}
use Rattle.kpn_book.proofs.Tallies.{IsTally-ready}
use Rattle.kpn_book.proofs.Queueing.{IsSchedule-ready}
use Rattle.kpn_book.proofs.schedule.Schedule.new.Goals as goal

pub invariant_of-result : goal.invariant_of-result
invariant_of-result g c =
    rw (c.in_ok-states.ensures, c.in_ok-queue.ensures.numbers) (
      IsSchedule-ready c.args.processes,
      (rw (length-replicate c.args.processes Ready) c.in_ok-queue.ensures.queue, IsTally-ready c.args.processes),
    )
