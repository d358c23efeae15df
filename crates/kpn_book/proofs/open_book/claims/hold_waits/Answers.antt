use Rattle.kpn_book.proofs.Common.{◌<◌, length, get_or, sym, ap, subst, Contains-get_or}
use Rattle.kpn_book.proofs.open_book.claims.hold_waits.Goals as goal

pub hold_wait-requires-clause-process : goal.hold_wait-requires-clause-process
hold_wait-requires-clause-process g c =
    subst (λ t. get_or c.args.of.now c.processes.k 0 < length t.instances)
    (sym (ap (λ b. b.tables) c.processes.invariant))
    (c.requires.processes _ (Contains-get_or c.args.of.now c.processes.k 0 c.processes-test.true))
