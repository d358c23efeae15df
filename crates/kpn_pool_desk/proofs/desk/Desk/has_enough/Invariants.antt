use Rattle.kpn_pool_desk.proofs.Common.{◌≡◌, ℕ, ◌<◌, ◌≤◌, true, length, channel_at, is_sink}
use Rattle.kpn_history.specs.Channels.{read_on}
use Rattle.kpn_pool_desk.proofs.desk.Desk.has_enough.Given as goal

abbrev pub invariant-channels : goal.invariant-channels
invariant-channels g l =
    (c : ℕ) → c < l.c → is_sink (channel_at l.self.book.tables c) ≡ true
    → l.items ≤ length (read_on l.self.book.history c)
