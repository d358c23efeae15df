use Rattle.kpn_pool_desk.proofs.Common.{◌≡◌, ◌<◌, ◌+◌, ℕ, length, Some, slice_get, new_seat}
use Rattle.kpn_pool_desk.proofs.desk.Desk.with_seats.Given as goal

abbrev pub invariant-loop-number : goal.invariant-loop-number
invariant-loop-number g l =
    (l.shares.parts + l.number ≡ l.workers) × (l.shares.amount ≡ 0) × (l.total.total ≡ 0)
    × (length l.seats.items ≡ l.number)
    × ((i : ℕ) → i < l.number → slice_get l.seats.items i ≡ Some (new_seat i))
