use Rattle.kpn_book.proofs.Common.{◌≡◌, length, ap, subst, arith, IsNoneHeldBelow}
use Rattle.kpn_book.proofs.Release.{none_left}
use Rattle.kpn_book.proofs.releasing.put_back_held.Goals as goal

pub returns-clause-none : goal.returns-clause-none
returns-clause-none c =
    let first = ap (λ t. length t.instances) c.network.ensures in
    let same = ap (λ b. length b.tables.instances) c.processes.invariant.alone in
    let end : c.processes.p ≡ length c.processes.book.tables.instances =
    omega (arith, c.instances-p-end.ensures, c.processes-test.false, c.processes.auto.p-end) in
    none_left c.processes.book c.known.ensures
    (subst (IsNoneHeldBelow c.processes.book) end c.processes.invariant.none)
