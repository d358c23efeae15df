-- What is told of a session: its parts, their names and the states of its channels.
use Rattle.std.specs.Prelude.{◌≡◌, ◌⊎◌, ◌<◌, ◌≤◌, ◌-◌, ◌^◌, ℕ, List, length, Option, Some, None}
use Rattle.kpn_net.specs.declared.tables.End.{End}
use Rattle.kpn_net.specs.declared.tables.End.TheVariants.{Process, Source, Sink}
use Rattle.kpn_net.specs.Tables.{Tables, writer_of, reader_of}
use Rattle.kpn_text_names.specs.Names.{name_at}
use Rattle.kpn_chan.specs.Channel.{unread}
use Rattle.kpn_history.specs.Channels.{read_on, is_closed}
use Rattle.kpn_machine.specs.Machine.{channel_in}
use Rattle.kpn_book.specs.Book.{Book}
use Rattle.kpn_c.specs.declared.ends.PartCounts.{PartCounts}
use Rattle.kpn_c.specs.declared.ends.ChannelStatus.{ChannelStatus}
use Rattle.kpn_c.specs.Session.{Session}
use Rattle.kpn_c.specs.Slices.{PutsToFront}

-- how many processes and channels there are
abbrev pub counts_of : Tables → PartCounts
counts_of t = record { processes = length t.instances; channels = length t.channels }

-- ---- names

-- the name with this number is put to the front of a slice, or the number says that there is none
abbrev pub PutsName : (none : ℕ) → (count : ℕ) → (names : List (List ℕ)) → (k code told : ℕ) → (room kept : List ℕ)
    → Type 0
PutsName none count names k code told room kept =
    ((k < count) × PutsToFront (name_at names k) code told room kept)
    ⊎ ((count ≤ k) × (code ≡ none) × (kept ≡ room))

abbrev pub PutsChannelName : (channel code told : ℕ) → (room kept : List ℕ) → Session → Type 0
PutsChannelName channel code told room kept s =
    PutsName 64 (length s.document.tables.channels) s.document.names.channels channel code told room kept

abbrev pub PutsProcessName : (process code told : ℕ) → (room kept : List ℕ) → Session → Type 0
PutsProcessName process code told room kept s =
    PutsName 67 (length s.document.tables.instances) s.document.names.instances process code told room kept

-- ---- channels

-- the number of the process at an end of a channel. It is the greatest number if the outside is there
abbrev pub number_of_end : End → ℕ
number_of_end (Process p) = p
number_of_end Source = 2 ^ 64 - 1
number_of_end Sink = 2 ^ 64 - 1

-- what is at the ends of a channel, how many items were got from it, how many are unread, whether it is a source that
-- was closed, and whether its reader is gone
abbrev pub channel_state_of : Book → (c : ℕ) → ChannelStatus
channel_state_of b c =
    record {
      writer = number_of_end (writer_of b.tables c);
      reader = number_of_end (reader_of b.tables c);
      got = length (read_on b.history c);
      unread = length (unread (channel_in b.machine c));
      is_closed = is_closed b.history c;
      is_left = (channel_in b.machine c).is_retired;
    }

-- the state of the channel, or that no channel has this number
abbrev pub TellsState : (channel : ℕ) → Option ChannelStatus → Book → Type 0
TellsState channel None b = length b.tables.channels ≤ channel
TellsState channel (Some told) b = (channel < length b.tables.channels) × (told ≡ channel_state_of b channel)
