use Rattle.std.proofs.Common.{◌<◌, length, sym, subst}
use Rattle.kpn_book.proofs.Woken.{the_one}
use Rattle.kpn_book.proofs.open_book.commits.go_on.Goals as goal

pub make_ready-requires-clause-process : goal.make_ready-requires-clause-process
make_ready-requires-clause-process g c =
    subst (λ s. c.in-Some.q < length s.states) (sym c.put_back-2.ensures)
    (c.requires.woken.each c.in-Some.q (the_one c.args.woken c.in-Some.q c.in-Some.is)).0
