-- When a batch of a region may be joined to a machine, and to which one that leads. The machine may be a
-- later one than that of the claim: others may have moved between. What was claimed still has to agree with it.
use Rattle.std.specs.Prelude.{◌≡◌, ℕ, zero, suc, ◌+◌, ◌-◌, ◌<◌, ◌≤◌, ◌⊎◌, Bool, true, false, nat_lt, if◌then◌else◌, max, ℤ, IsTrue, List, [], ◌++◌, length, take, drop, Some, None}
use Rattle.kpn_net.specs.declared.wait.Wait.{Wait}
use Rattle.kpn_net.specs.declared.wait.Wait.TheVariants.{Nobody, Empty, Full}
use Rattle.kpn_net.specs.Tables.{Tables, channel_at, is_sink}
use Rattle.kpn_chan.specs.Channel.{ChannelState, unread, readable, has_places_for}
use Rattle.kpn_machine.specs.Machine.{Machine, channel_in, wait_in, end_in, frame_in}
use Rattle.kpn_region.specs.Local.{SideState, as_claimed, Local, is_in_region, frame_at, side_at}
use Rattle.kpn_region.specs.Turn.{side_in}
use Rattle.kpn_region.specs.Batch.{Batch}

-- ---- what was claimed agrees with a machine

-- a sink that nobody has left, of which nothing was claimed
pub record IsUnclaimedSink (t : Tables) (c : ℕ) (claim : SideState) (channel : ChannelState) : Type 0 where
  pub sink : is_sink (channel_at t c) ≡ true
  pub open_still : channel.is_retired ≡ false
  pub none : claim.claimed ≡ 0

-- if the reader is there, the room and the unread items that were not claimed are together within the capacity
abbrev pub KeepsCapacity : (claim : SideState) → ChannelState → Type 0
KeepsCapacity claim channel =
    channel.is_retired ≡ false → (capacity : ℕ) → channel.capacity ≡ Some capacity
    → claim.room + length (unread channel) ≤ capacity + claim.claimed

-- the claim of a channel agrees with it: the claimed items are the first unread ones, the room keeps the capacity, and
-- a sink that the region empties was empty
pub record IsClaimOf (t : Tables) (c : ℕ) (claim : SideState) (channel : ChannelState) : Type 0 where
  pub count : claim.claimed ≡ length claim.items
  pub first : claim.items ≡ take (length claim.items) (readable channel)
  pub room : KeepsCapacity claim channel
  pub drained : claim.is_drained ≡ true → IsUnclaimedSink t c claim channel

-- no item was taken that was put after one that was not claimed
abbrev pub TakesInOrder : SideState → ChannelState → Type 0
TakesInOrder side channel = (side.taken ≤ side.claimed) ⊎ (side.claimed ≡ length (unread channel))

-- the items that the region has put on a channel
abbrev pub items_put : SideState → List ℤ
items_put side = drop side.claimed side.items

-- what the region sees of a channel agrees with it, and what it has put can be joined without memory
pub record ChannelAgrees (t : Tables) (c : ℕ) (side : SideState) (channel : ChannelState) : Type 0 where
  pub claim : IsClaimOf t c (as_claimed side) channel
  pub in_order : TakesInOrder side channel
  pub places : has_places_for (length (items_put side)) channel ≡ true

-- if the process is in the region, it has not ended, and is where it was claimed
abbrev pub ProcessAgrees : (claim : Local) → Machine → (p : ℕ) → Type 0
ProcessAgrees claim s p = is_in_region claim p ≡ true → (end_in s p ≡ None) × (frame_in s p ≡ frame_at claim p)

abbrev pub ProcessesAgree : Batch → Machine → Type 0
ProcessesAgree b s = (p : ℕ) → p < length b.tables.instances → ProcessAgrees b.first s p

abbrev pub ChannelsAgree : Batch → Machine → Type 0
ChannelsAgree b s =
    (c : ℕ) → c < length b.tables.channels → ChannelAgrees b.tables c (side_at b.now c) (channel_in s c)

-- what was claimed agrees with the machine
pub record AgreesWith (b : Batch) (s : Machine) : Type 0 where
  pub processes : ProcessesAgree b s
  pub channels : ChannelsAgree b s

-- ---- the machine with the batch

abbrev pub has_put_items : SideState → Bool
has_put_items side = nat_lt side.claimed (length side.items)

abbrev pub has_taken : SideState → Bool
has_taken side = nat_lt 0 side.taken

-- the most items that were ever unread, if these were the most that the region saw, and this many more that it did not
-- see; as before if it has put none
abbrev pub most_with : (unseen most before : ℕ) → ℕ
most_with unseen zero before = before
most_with unseen (suc most) before = max before (unseen + suc most)

abbrev pub most_joined : SideState → ChannelState → ℕ
most_joined side channel =
    if channel.is_retired then channel.most
    else most_with (length (unread channel) - side.claimed) side.most channel.most

-- a channel after a batch: what the region has put is appended to the journal, and what it has taken counts as read. If
-- it has put nothing, what was reserved stays so
pub record IsChannelJoined (side : SideState) (before after : ChannelState) : Type 0 where
  pub journal : after.journal ≡ before.journal ++ items_put side
  pub read : after.read ≡ before.read + side.taken
  pub capacity : after.capacity ≡ before.capacity
  pub retired : after.is_retired ≡ before.is_retired
  pub reserved : items_put side ≡ [] → IsTrue before.is_reserved → IsTrue after.is_reserved
  pub most : after.most ≡ most_joined side before
  pub kept : after.is_kept ≡ before.is_kept

-- what a process waits for after a batch: nobody, if an item was put on the channel on which it waited as empty, or
-- taken from the one on which it waited as full; else as before. A process of the region that has moved waited so, if it
-- waited
abbrev pub wait_joined : List SideState → Wait → Wait
wait_joined sides Nobody = Nobody
wait_joined sides (Empty c) = if has_put_items (side_in sides c) then Nobody else Empty c
wait_joined sides (Full c) = if has_taken (side_in sides c) then Nobody else Full c

-- the second machine is the first with the batch
pub record Joins (b : Batch) (before after : Machine) : Type 0 where
  pub channels : length after.channels ≡ length before.channels
  pub waits : length after.waits ≡ length before.waits
  pub frames : length after.frames ≡ length before.frames
  pub closed : after.closed ≡ before.closed
  pub ends : after.ends ≡ before.ends
  pub each_channel : (c : ℕ) → c < length b.tables.channels
      → IsChannelJoined (side_at b.now c) (channel_in before c) (channel_in after c)
  pub each_wait : (p : ℕ) → p < length b.tables.instances
      → wait_in after p ≡ wait_joined b.now.sides (wait_in before p)
  pub each_frame : (p : ℕ) → p < length b.tables.instances
      → frame_in after p ≡ (if is_in_region b.now p then frame_at b.now p else frame_in before p)
