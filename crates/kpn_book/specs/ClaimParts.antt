-- Scaffolding: a region is claimed process by process, and then channel by channel. Only contracts of private functions
-- cite it.
use Rattle.std.specs.Prelude.{◌≡◌, ◌↔◌, ℕ, ◌<◌, Bool, true, is_some, if◌then◌else◌, List, length, None, Contains}
use Rattle.kpn_net.specs.Tables.{Tables}
use Rattle.kpn_chan.specs.Channel.{ChannelState}
use Rattle.kpn_history.specs.declared.event.Event.{Event}
use Rattle.kpn_machine.specs.Machine.{Machine, channel_in, end_in, frame_in}
use Rattle.kpn_machine.specs.Run.{IsRun}
use Rattle.kpn_region.specs.Local.{Local, is_in_region, frame_at, side_at, with_side}
use Rattle.kpn_region.specs.Batch.{Batch, IsFresh, with_process}
use Rattle.kpn_book.specs.RegionClaims.{IsSameButMemory, side_claimed}

-- ---- processes

-- the process is in the region too, where it stands, if it has not ended
abbrev pub with_process_of : Machine → (p : ℕ) → Local → Local
with_process_of s p claim = if is_some (end_in s p) then claim else with_process p (frame_in s p) claim

-- those of these processes that have not ended are in the region, where they stand
pub record HasProcesses (of : List ℕ) (t : Tables) (s : Machine) (batch : Batch) : Type 0 where
  pub tables : batch.tables ≡ t
  pub fresh : IsFresh batch
  pub within : (p : ℕ) → p < length t.instances
      → (is_in_region batch.first p ≡ true) ↔ (Contains of p × (end_in s p ≡ None))
  pub frames : (p : ℕ) → is_in_region batch.first p ≡ true → frame_at batch.first p ≡ frame_in s p

-- ---- channels

-- the second machine is the first, except for what is reserved and which channels are roomy
pub record MakesRoom (before after : Machine) : Type 0 where
  pub rest : after ≡ record before { channels = after.channels }
  pub count : length after.channels ≡ length before.channels
  pub channels : (c : ℕ) → IsSameButMemory (channel_in before c) (channel_in after c)
  pub run : (t : Tables) (H : List Event) → IsRun t H before → IsRun t H after

-- the region sees channel c as far as it may
pub record SeesChannel (most : ℕ) (drains : Bool) (c : ℕ) (channel : ChannelState) (before after : Batch) : Type 0 where
  pub tables : after.tables ≡ before.tables
  pub fresh : IsFresh after
  pub side : after.first
      ≡ with_side c (side_claimed before.tables before.first c most drains channel) before.first

-- it sees the channels below n so
pub record SeesChannels (most : ℕ) (drains : Bool) (s : Machine) (n : ℕ) (before after : Batch) : Type 0 where
  pub tables : after.tables ≡ before.tables
  pub fresh : IsFresh after
  pub within : after.first.within ≡ before.first.within
  pub frames : after.first.frames ≡ before.first.frames
  pub sides : (c : ℕ) → c < n
      → side_at after.first c ≡ side_claimed before.tables before.first c most drains (channel_in s c)
