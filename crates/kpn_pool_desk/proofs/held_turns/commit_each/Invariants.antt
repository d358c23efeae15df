use Rattle.kpn_pool_desk.proofs.Common.{◌≡◌, ◌+◌, ◌≤◌, take, with_total, CommitsOrDrops, InTurn}
use Rattle.kpn_pool_desk.proofs.held_turns.commit_each.Given as goal

abbrev pub invariant-turns : goal.invariant-turns
invariant-turns g l = record {
  commits : InTurn CommitsOrDrops (take l.i l.turns) l.fn.desk.book l.desk.book;
  same : l.desk ≡ with_total l.desk.book l.desk.total l.fn.desk;
  number : l.seat.number ≡ l.fn.seat.number;
  counted : l.fn.seat.commits ≤ l.seat.commits;
  most : l.seat.commits ≤ l.fn.seat.commits + l.i;
}
