use Rattle.std.proofs.Common.{◌≡◌}
use Rattle.kpn_pool_desk.proofs.desk.Desk.note_sinks.Given as goal

abbrev pub invariant-channels : goal.invariant-channels
invariant-channels g l = l.self ≡ l.fn.self
