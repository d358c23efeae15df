-- The claim of a region: which processes it takes, and what it sees of each channel.
use Rattle.std.specs.Prelude.{◌≡◌, ◌↔◌, ℕ, ◌-◌, ◌/◌, ◌^◌, ◌<◌, min, Bool, true, false, not, ◌&&◌, nat_eq, if◌then◌else◌, IsTrue, List, length, take, Option, Some, None, Contains}
use Rattle.std.specs.List.{list_all, list_any}
use Rattle.kpn_net.specs.declared.tables.End.{End}
use Rattle.kpn_net.specs.declared.tables.End.TheVariants.{Process}
use Rattle.kpn_net.specs.Tables.{Tables, channel_at, is_sink, writer_of, reader_of}
use Rattle.kpn_chan.specs.Channel.{ChannelState, unread, readable}
use Rattle.kpn_history.specs.declared.state.State.{State}
use Rattle.kpn_history.specs.Views.{is_ready, is_held}
use Rattle.kpn_machine.specs.Machine.{Machine, channel_in, end_in, frame_in}
use Rattle.kpn_region.specs.Local.{SideState, claimed_with, Local, is_in_region, frame_at, side_at}
use Rattle.kpn_region.specs.Batch.{Batch, IsFresh}
use Rattle.kpn_region.specs.Joining.{AgreesWith}
use Rattle.kpn_book.specs.Schedule.{state_at}
use Rattle.kpn_book.specs.Book.{Book}
use Rattle.kpn_book.specs.Regions.{batch_held}
use Rattle.kpn_book.specs.RegionCalls.{CanCount}

-- none of these processes is held, and one is ready
abbrev pub may_claim : (of : List ℕ) → List State → Bool
may_claim of states =
    list_all (λ p. not (is_held (state_at states p))) of && list_any (λ p. is_ready (state_at states p)) of

-- ---- a channel as it is claimed

-- an end of a channel is a process of the region
abbrev pub is_end_within : Local → End → Bool
is_end_within s (Process p) = is_in_region s p
is_end_within s other = false

-- this many items, but no more than half the capacity, rounded up, or than 512 of a source, which has none
abbrev pub at_most_half : Option ℕ → ℕ → ℕ
at_most_half None items = min items 512
at_most_half (Some capacity) items = min items (capacity - capacity / 2)

-- how many items are claimed. Who only reads the channel leaves its writer half of the capacity
abbrev pub items_claimed : (reads writes : Bool) → (most : ℕ) → ChannelState → ℕ
items_claimed false writes most channel = 0
items_claimed true true most channel = min most (length (readable channel))
items_claimed true false most channel = at_most_half channel.capacity (min most (length (readable channel)))

-- the room beside what is unread and was not claimed
abbrev pub free_room : Option ℕ → (items unread : ℕ) → ℕ
free_room None items unread = 0
free_room (Some capacity) items unread = capacity - (unread - items)

-- how many items may be there and not taken, if this many are claimed: without end once the reader is gone
abbrev pub room_claimed : (writes : Bool) → (items : ℕ) → ChannelState → ℕ
room_claimed false items channel = 0
room_claimed true items channel =
    if channel.is_retired then 2 ^ 64 - 1 else free_room channel.capacity items (length (unread channel))

-- whether the region empties a sink
abbrev pub drains_claimed : (drains writes is_sink : Bool) → ChannelState → Bool
drains_claimed drains writes is_sink channel =
    drains && (writes && (is_sink && (not channel.is_retired && nat_eq (length (unread channel)) 0)))

-- what the region sees of a channel, if it reads it, and if it writes it
abbrev pub side_by : (reads writes is_sink : Bool) → (most : ℕ) → (drains : Bool) → ChannelState → SideState
side_by reads writes is_sink most drains channel =
    claimed_with (take (items_claimed reads writes most channel) (readable channel))
    (room_claimed writes (items_claimed reads writes most channel) channel)
    (drains_claimed drains writes is_sink channel)

abbrev pub side_claimed : Tables → Local → (c : ℕ) → (most : ℕ) → (drains : Bool) → ChannelState → SideState
side_claimed t claim c most drains channel =
    side_by (is_end_within claim (reader_of t c)) (is_end_within claim (writer_of t c)) (is_sink (channel_at t c)) most
    drains channel

-- ---- the claim

-- the same channel, except that an item may have been reserved, and that it may have become roomy
pub record IsSameButMemory (before after : ChannelState) : Type 0 where
  pub same : after
      ≡ record before { is_reserved = after.is_reserved; is_roomy = after.is_roomy; is_wide = after.is_wide }
  pub reserved : IsTrue before.is_reserved → IsTrue after.is_reserved
  pub roomy : IsTrue before.is_roomy → IsTrue after.is_roomy

-- the same book, except for that
pub record IsSameBook (before after : Book) : Type 0 where
  pub same : after ≡ record before { machine = after.machine }
  pub rest : after.machine ≡ record before.machine { channels = after.machine.channels }
  pub count : length after.machine.channels ≡ length before.machine.channels
  pub channels : (c : ℕ) → IsSameButMemory (channel_in before.machine c) (channel_in after.machine c)

-- if a process of the region writes the channel, it is roomy
abbrev pub IsRoomyToWrite : Tables → Local → Machine → (c : ℕ) → Type 0
IsRoomyToWrite t claim s c = is_end_within claim (writer_of t c) ≡ true → IsTrue (channel_in s c).is_roomy

-- these processes are claimed: those that have not ended are in the region, where they stand, and it sees their
-- channels as far as it may. Those on which it may put items are roomy. Its processes that are ready are held
pub record ClaimsRegion (of : List ℕ) (most : ℕ) (drains : Bool) (batch : Batch) (before after : Book) : Type 0 where
  pub may : may_claim of before.schedule.states ≡ true
  pub countable : CanCount 0 before
  pub fresh : IsFresh batch
  pub within : (p : ℕ) → p < length before.tables.instances
      → (is_in_region batch.first p ≡ true) ↔ (Contains of p × (end_in before.machine p ≡ None))
  pub frames : (p : ℕ) → is_in_region batch.first p ≡ true → frame_at batch.first p ≡ frame_in before.machine p
  pub sides : (c : ℕ) → c < length before.tables.channels → side_at batch.first c
      ≡ side_claimed before.tables batch.first c most drains (channel_in before.machine c)
  pub roomy : Book
  pub same : IsSameBook before roomy
  pub places : (c : ℕ) → c < length before.tables.channels
      → IsRoomyToWrite before.tables batch.first roomy.machine c
  pub agrees : AgreesWith batch roomy.machine
  pub held : after ≡ batch_held batch roomy

-- why no region is claimed
abbrev pub RefusesClaim : (of : List ℕ) → Book → Type 0
RefusesClaim of b = ¬ ((may_claim of b.schedule.states ≡ true) × CanCount 0 b)
