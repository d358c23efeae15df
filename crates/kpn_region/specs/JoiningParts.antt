-- Scaffolding: a batch is joined channel by channel, and then process by process. Only contracts of private functions
-- cite it.
use Rattle.std.specs.Prelude.{◌≡◌, ℕ, ◌+◌, ◌-◌, ◌<◌, ◌≤◌, ◌&&◌, ◌||◌, nat_eq, nat_lt, if◌then◌else◌, List, length}
use Rattle.kpn_net.specs.declared.wait.Wait.{Wait}
use Rattle.kpn_net.specs.declared.wait.Wait.TheVariants.{Nobody, Empty, Full}
use Rattle.kpn_net.specs.Waits.{AreWaits}
use Rattle.kpn_chan.specs.Channel.{ChannelState, unread}
use Rattle.kpn_machine.specs.Machine.{Machine, channel_in, wait_in, frame_in, with_channel, with_waits}
use Rattle.kpn_machine.specs.Woken.{AreWoken, ends_by_batch}
use Rattle.kpn_region.specs.Local.{SideState, is_in_region, frame_at, side_at}
use Rattle.kpn_region.specs.Turn.{side_in}
use Rattle.kpn_region.specs.Batch.{Batch}
use Rattle.kpn_region.specs.Joining.{has_put_items, has_taken, IsChannelJoined}

-- the most items that were unread when the region had put one, if it has and the reader is there; else 0
abbrev pub most_seen : SideState → ChannelState → ℕ
most_seen side channel =
    if channel.is_retired || nat_eq side.most 0 then 0 else length (unread channel) - side.claimed + side.most

-- channel c is joined
pub record JoinsChannel (b : Batch) (c : ℕ) (before after : Machine) : Type 0 where
  pub rest : after ≡ with_waits after.waits (with_channel c (channel_in after c) before)
  pub channel : IsChannelJoined (side_at b.now c) (channel_in before c) (channel_in after c)
  pub woken : AreWoken (ends_by_batch c (has_taken (side_at b.now c)) (has_put_items (side_at b.now c)))
      before.waits after.waits
  pub waits : AreWaits b.tables after.waits

-- what a process waits for once the channels before this one are joined
abbrev pub wait_joined_below : (n : ℕ) → List SideState → Wait → Wait
wait_joined_below n sides Nobody = Nobody
wait_joined_below n sides (Empty c) = if nat_lt c n && has_put_items (side_in sides c) then Nobody else Empty c
wait_joined_below n sides (Full c) = if nat_lt c n && has_taken (side_in sides c) then Nobody else Full c

-- the first n channels are joined
pub record JoinsChannels (b : Batch) (n : ℕ) (before after : Machine) : Type 0 where
  pub channels : length after.channels ≡ length before.channels
  pub waits : AreWaits b.tables after.waits
  pub closed : after.closed ≡ before.closed
  pub ends : after.ends ≡ before.ends
  pub frames : after.frames ≡ before.frames
  pub joined : (c : ℕ) → c < n → IsChannelJoined (side_at b.now c) (channel_in before c) (channel_in after c)
  pub others : (c : ℕ) → n ≤ c → channel_in after c ≡ channel_in before c
  pub each_wait : (p : ℕ) → wait_in after p ≡ wait_joined_below n b.now.sides (wait_in before p)

-- the first n processes, if they are in the region, are where they stand in it
pub record JoinsFrames (b : Batch) (n : ℕ) (before after : Machine) : Type 0 where
  pub rest : after ≡ record before { frames = after.frames }
  pub frames : length after.frames ≡ length before.frames
  pub each_frame : (p : ℕ) → p < n
      → frame_in after p ≡ (if is_in_region b.now p then frame_at b.now p else frame_in before p)
  pub others : (p : ℕ) → n ≤ p → frame_in after p ≡ frame_in before p
