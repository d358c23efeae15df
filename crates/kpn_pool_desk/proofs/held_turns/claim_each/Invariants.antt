use Rattle.kpn_pool_desk.proofs.Common.{◌≡◌, take, with_book, Claims, InTurn}
use Rattle.kpn_pool_desk.proofs.held_turns.claim_each.Given as goal

abbrev pub invariant-turns : goal.invariant-turns
invariant-turns g l = record {
  claims : InTurn Claims (take l.i l.turns) l.fn.desk.book l.desk.book;
  same : l.desk ≡ with_book l.desk.book l.fn.desk;
}
