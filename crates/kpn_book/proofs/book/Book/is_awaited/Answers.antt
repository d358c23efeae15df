use Rattle.kpn_net.specs.declared.wait.Wait.TheVariants.{Empty}
use Rattle.kpn_machine.proofs.Woken.{below}
use Rattle.kpn_book.proofs.book.Book.is_awaited.Goals as goal

pub wait-requires : goal.wait-requires
wait-requires g c =
    below c.self.inside.parts.network.now c.self.inside.parts.machine.waits
    c.self.invariant.in_step.run.shape.waits (Empty c.args.c) c.reader_of.result c.reader_of.ensures c.in-Process.p
    c.in-Process.is
