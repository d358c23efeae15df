use Rattle.kpn_book.proofs.Common.{drop, sym, ap, arith, drop_more}
use Rattle.kpn_book.proofs.queue.Queue.drop_first.Goals as goal

pub returns-clause-numbers : goal.returns-clause-numbers
returns-clause-numbers g c =
    sym (ap (drop 1) (drop_more c.args.self.now.numbers.items c.args.self.now.taken 0 c.requires))

pub returns-clause-queue : goal.returns-clause-queue
returns-clause-queue g c room is = record { taken = omega (arith, c.requires); places = is.places }
