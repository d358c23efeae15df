use Rattle.kpn_book.proofs.Common.{◌≡◌, ℕ, ◌<◌, ◌≤◌, true, length, channel_at, is_sink, read_on}
use Rattle.kpn_book.proofs.stopping.have_read.Given as goal

abbrev pub invariant-channels : goal.invariant-channels
invariant-channels l =
    (c : ℕ) → c < l.c → is_sink (channel_at l.book.tables c) ≡ true → l.items ≤ length (read_on l.book.history c)
