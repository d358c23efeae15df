use Rattle.std.proofs.Common.{◌≡◌}
use Rattle.kpn_pool_desk.proofs.held_turns.note_each.Given as goal

abbrev pub invariant-turns : goal.invariant-turns
invariant-turns g l = l.desk ≡ l.fn.desk
