use Rattle.kpn_book.proofs.Common.{◌≡◌, ◌≤◌, range_with_len}
use Rattle.kpn_book.proofs.queue.Queue.new.Given as goal

abbrev pub invariant-loop-p : goal.invariant-loop-p
invariant-loop-p g l = record {
  items : l.numbers.items ≡ range_with_len 0 l.p;
  len : l.numbers.len ≡ l.p;
  room : l.processes ≤ l.numbers.cap;
}
