use Rattle.kpn_book.proofs.Woken.{the_one}
use Rattle.kpn_book.proofs.open_book.wake.Goals as goal

pub make_ready-requires-clause-process : goal.make_ready-requires-clause-process
make_ready-requires-clause-process g c = (c.requires.each c.in-Some.q (the_one c.args.woken c.in-Some.q c.in-Some.is)).0
