use Rattle.kpn_book.proofs.Common.{◌≡◌, true, not, take, list_all, list_any, is_ready, is_held, state_at}
use Rattle.kpn_book.proofs.open_book.claims.may_claim.Given as goal

abbrev pub invariant-processes : goal.invariant-processes
invariant-processes g l =
    (list_all (λ p. not (is_held (state_at l.schedule.states p))) (take l.k l.of) ≡ true)
    × (l.some_ready ≡ list_any (λ p. is_ready (state_at l.schedule.states p)) (take l.k l.of))
