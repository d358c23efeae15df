use Rattle.std.proofs.Common.{◌≡◌, ◌+◌}
use Rattle.std.specs.Prelude.{vec_len, vec_capacity}
use Rattle.std.specs.Vec.Iter.{into_iter_len}
use Rattle.kpn_pool.proofs.threads.work_in.Given as goal

abbrev pub invariant-seats : goal.invariant-seats
invariant-seats g l = record {
  count : vec_len l.threads + vec_len l.ended + into_iter_len l.seat-iterator ≡ vec_len l.fn.parties.seats;
  threads : vec_capacity l.threads ≡ vec_len l.fn.parties.seats;
  ended : vec_capacity l.ended ≡ vec_len l.fn.parties.seats;
}

abbrev pub invariant-threads : goal.invariant-threads
invariant-threads g l = record {
  count : vec_len l.ended + into_iter_len l.thread-iterator ≡ vec_len l.fn.parties.seats;
  room : vec_capacity l.ended ≡ vec_len l.fn.parties.seats;
}
