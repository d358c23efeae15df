use Rattle.kpn_pool.proofs.Common.{length, channel_in, IsBook, KeepsHeld}
use Rattle.kpn_chan.specs.Channel.{unread}
use Rattle.kpn_pool.proofs.ending.empty_sink.Given as goal

abbrev pub invariant-items : goal.invariant-items
invariant-items l = record { book : IsBook l.book; kept : KeepsHeld l.initial.book l.book }

abbrev pub decreases-items : goal.decreases-items
decreases-items l = length (unread (channel_in l.book.machine l.sink))
