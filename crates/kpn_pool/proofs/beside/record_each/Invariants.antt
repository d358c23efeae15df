use Rattle.std.proofs.Common.{◌≡◌, map, take, vec_len}
use Rattle.kpn_pool.proofs.Common.{vec_capacity, sum_by, Seat, Worked, worked_of}
use Rattle.kpn_pool.proofs.beside.record_each.Given as goal

abbrev pub invariant-seats : goal.invariant-seats
invariant-seats g l = record {
  count : vec_len l.records ≡ l.i;
  room : vec_capacity l.records ≡ vec_capacity l.fn.records;
  each : l.records.items ≡ map worked_of (take l.i l.seats);
  commits :
      sum_by (λ (w : Worked). w.commits) l.records.items ≡ sum_by (λ (s : Seat). s.commits) (take l.i l.seats);
}
