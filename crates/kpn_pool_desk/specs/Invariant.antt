-- What is promised of a run at each moment at which its lock is free.
use Rattle.std.specs.Prelude.{◌≡◌, ℕ, ◌<◌, ◌≤◌, false, List, ◌∷◌, ◌++◌, length, count_by, Some}
use Rattle.kpn_net.specs.declared.tables.Policy.TheVariants.{All}
use Rattle.kpn_net.specs.declared.wait.Wait.TheVariants.{Full}
use Rattle.kpn_net.specs.Iteration.{IsBelowLeast, IsLeast}
use Rattle.kpn_chan.specs.Channel.{ChannelState, unread}
use Rattle.kpn_history.specs.declared.event.Event.{Event}
use Rattle.kpn_history.specs.declared.event.Event.TheVariants.{Grow}
use Rattle.kpn_history.specs.declared.state.Counts.{Counts}
use Rattle.kpn_history.specs.Channels.{read_on, fed, capacity_after}
use Rattle.kpn_history.specs.Waiting.{wait_of, waits_of}
use Rattle.kpn_history.specs.Legal.{OwesGrowth}
use Rattle.kpn_history.specs.Ends.{IsQuiet, IsSettled}
use Rattle.kpn_history.specs.Stops.{CanGrow}
use Rattle.kpn_machine.specs.Machine.{channel_in, is_empty_wait, is_full_wait}
use Rattle.kpn_book.specs.Book.{Book}

-- a channel of the run, as it is held
abbrev pub channel_in_book : Book → ℕ → ChannelState
channel_in_book b c = channel_in b.machine c

-- each journal is a prefix of Kahn's least solution for the items fed so far
abbrev pub AreBelowLeast : Book → Type 0
AreBelowLeast b = (c : ℕ) → c < length b.tables.channels
    → IsBelowLeast b.tables (fed b.tables b.history) c (channel_in_book b c).journal

-- each is what was read followed by what is queued
abbrev pub AreReadThenQueued : Book → Type 0
AreReadThenQueued b = (c : ℕ) → c < length b.tables.channels
    → (channel_in_book b c).journal ≡ read_on b.history c ++ unread (channel_in_book b c)

-- no more is queued than the capacity, where the reader has not ended or left
abbrev pub AreWithinCapacity : Book → Type 0
AreWithinCapacity b = (c : ℕ) → c < length b.tables.channels → (channel_in_book b c).is_retired ≡ false
    → (cap : ℕ) → (channel_in_book b c).capacity ≡ Some cap → length (unread (channel_in_book b c)) ≤ cap

-- the counts of the processes that wait are the numbers of those that are blocked, on an empty and on a full channel
pub record AreBlockedCounts (b : Book) (counts : Counts) : Type 0 where
  pub empty : counts.empty ≡ count_by is_empty_wait (waits_of b.tables b.history)
  pub full : counts.full ≡ count_by is_full_wait (waits_of b.tables b.history)

-- each growth took the smallest awaited full channel of a blocked cycle or of a settled network, at the moment when
-- this was owed
abbrev pub AreOwedGrowths : Book → Type 0
AreOwedGrowths b = (B rest : List Event) (p d n : ℕ) → b.history ≡ B ++ Grow p d n ∷ rest → OwesGrowth b.tables B p d

-- when every process has ended or waits on an empty channel, the journals are the least solution
abbrev pub AreLeastWhenQuiet : Book → Type 0
AreLeastWhenQuiet b = IsQuiet b.tables b.history → (c : ℕ) → c < length b.tables.channels
    → IsLeast b.tables (fed b.tables b.history) c (channel_in_book b c).journal

-- no blocked cycle has a full channel below the limit
abbrev pub HasNoneLeftToGrow : Book → Type 0
HasNoneLeftToGrow b = ¬ CanGrow b.tables b.history

-- under the policy `all` no process waits on a full channel below the limit once the book is settled
abbrev pub HasNoneLeftAtStop : Book → Type 0
HasNoneLeftAtStop b = b.tables.policy ≡ All → IsSettled b.tables b.history → (p c : ℕ) → p < length b.tables.instances
    → wait_of b.tables b.history p ≡ Full c → capacity_after b.tables b.history c ≡ Some b.tables.limit
