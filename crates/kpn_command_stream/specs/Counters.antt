-- What the channels of a stream did, by the counters of its book.
use Rattle.std.specs.Prelude.{◌≡◌, ℕ, ◌<◌, Bool, true, false, List, [], length, get_or}
use Rattle.kpn_history.specs.Channels.{written_on, read_on, unread_on}
use Rattle.kpn_machine.specs.Machine.{channel_in}
use Rattle.kpn_book.specs.Book.{Book}
use Rattle.kpn_command_stream.specs.declared.counters.ChannelCounts.{ChannelCounts}

-- how many items were put on channel c, how many were read from it, how many are unread, and the most that ever were
pub record IsCounted (b : Book) (c : ℕ) (counts : ChannelCounts) : Type 0 where
  pub put : counts.put ≡ length (written_on b.history c)
  pub read : counts.read ≡ length (read_on b.history c)
  pub unread : counts.unread ≡ length (unread_on b.history c)
  pub most : counts.most ≡ (channel_in b.machine c).most

-- the counters of the first channels, one after the other
pub record AreCounted (b : Book) (counts : List ChannelCounts) : Type 0 where
  pub each : (c : ℕ) (other : ChannelCounts) → c < length counts → IsCounted b c (get_or counts c other)

-- the counters of each channel in order, if they are asked for
abbrev pub AreCountsIf : (asked : Bool) → Book → List ChannelCounts → Type 0
AreCountsIf true b counts = AreCounted b counts × (length counts ≡ length b.tables.channels)
AreCountsIf false b counts = counts ≡ []
