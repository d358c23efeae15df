use Rattle.kpn_pool_desk.proofs.Common.{◌≡◌, ◌+◌, vec_len, sum_by, Seat}
use Rattle.kpn_pool_desk.proofs.desk.Desk.into_book.Given as goal

abbrev pub invariant-loop-seat : goal.invariant-loop-seat
invariant-loop-seat g l =
    (l.all.parts + vec_len l.workers ≡ g.J.Ledger.parts)
    × (l.all.amount + sum_by (λ (s : Seat). s.commits) l.workers.items
    ≡ sum_by (λ (s : Seat). s.commits) l.fn.workers.items)

abbrev pub decreases-loop-seat : goal.decreases-loop-seat
decreases-loop-seat g l = vec_len l.workers
