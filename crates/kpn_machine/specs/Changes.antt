-- How one event changes a machine into another. No history is part of this.
use Rattle.std.specs.Prelude.{◌≡◌, ◌≢◌, ℕ, ◌+◌, ◌<◌, ◌||◌, IsTrue, nat_eq, if◌then◌else◌, ℤ, List, [], ◌++◌, length, Option, Some, slice_index}
use Rattle.kpn_net.specs.Tables.{Tables, instance_at, program_of}
use Rattle.kpn_step.specs.declared.stop.Stop.TheVariants.{WantRead, WantWrite}
use Rattle.kpn_step.specs.Frame.{Frame, passed}
use Rattle.kpn_step.specs.Stops.{StandsAt, IsGiven}
use Rattle.kpn_chan.specs.Channel.{ChannelState, most_after}
use Rattle.kpn_history.specs.declared.event.How.{How}
use Rattle.kpn_history.specs.declared.event.Event.{Event}
use Rattle.kpn_history.specs.declared.event.Event.TheVariants.{Get, Put, Ended}
use Rattle.kpn_history.specs.Channels.{written_in, read_in, is_close_of}
use Rattle.kpn_history.specs.Waking.{wait_then}
use Rattle.kpn_history.specs.AfterEvent.{capacity_then, takes_reader}
use Rattle.kpn_machine.specs.Machine.{Machine, channel_in, closed_in, wait_in, end_in, frame_in}

-- a channel after an event: what the event writes is appended to its journal, and what it reads counts as read. A
-- growth of the channel makes its capacity larger. The channel is retired from then on if the event takes its reader.
-- What was reserved stays so, unless the event is a put. What is kept stays so
pub record IsChannelAfter (t : Tables) (event : Event) (c : ℕ) (before after : ChannelState) : Type 0 where
  pub journal : after.journal ≡ before.journal ++ written_in c event
  pub read : after.read ≡ before.read + length (read_in c event)
  pub capacity : after.capacity ≡ capacity_then t c event before.capacity
  pub retired : after.is_retired ≡ (before.is_retired || takes_reader t c event)
  pub reserved : written_in c event ≡ [] → IsTrue before.is_reserved → IsTrue after.is_reserved
  pub most : after.most ≡ most_after (written_in c event) before
  pub kept : after.is_kept ≡ before.is_kept

-- how a process has ended after an event: as before, unless the event is its own end
abbrev pub end_then : Event → (p : ℕ) → Option How → Option How
end_then (Ended q how) p before = if nat_eq q p then Some how else before
end_then event p before = before

-- among these ports, this one is of this channel
abbrev pub IsChannelAt : (ports : List ℕ) → (port c : ℕ) → Type 0
IsChannelAt ports port c = (port < length ports) × (slice_index ports port ≡ c)

-- process p was at a read from the channel, and is past it with the item
pub record PassesRead (t : Tables) (p c : ℕ) (v : ℤ) (before after : Frame) : Type 0 where
  pub port : ℕ
  pub channel : IsChannelAt (instance_at t p).ins port c
  pub stood : StandsAt (program_of t p).blocks before (WantRead port)
  pub passes : IsGiven (program_of t p).blocks before v after

-- process p was at a write of the item to the channel, and is past it
pub record PassesWrite (t : Tables) (p c : ℕ) (v : ℤ) (before after : Frame) : Type 0 where
  pub port : ℕ
  pub channel : IsChannelAt (instance_at t p).outs port c
  pub stood : StandsAt (program_of t p).blocks before (WantWrite port v)
  pub passes : after ≡ passed before

-- a frame after an event: past the read or the write, if the event is of its process; else the same
abbrev pub IsFrameAfter : Tables → Event → (p : ℕ) → (before after : Frame) → Type 0
IsFrameAfter t (Get q c v) p before after = (q ≡ p → PassesRead t p c v before after) × (q ≢ p → after ≡ before)
IsFrameAfter t (Put q c v) p before after = (q ≡ p → PassesWrite t p c v before after) × (q ≢ p → after ≡ before)
IsFrameAfter t event p before after = after ≡ before

-- the event changes the first machine into the second
pub record Changes (t : Tables) (event : Event) (before after : Machine) : Type 0 where
  pub channels : (c : ℕ) → c < length t.channels → IsChannelAfter t event c (channel_in before c) (channel_in after c)
  pub closed : (c : ℕ) → c < length t.channels → closed_in after c ≡ (closed_in before c || is_close_of c event)
  pub waits : (p : ℕ) → p < length t.instances → wait_in after p ≡ wait_then t event p (wait_in before p)
  pub ends : (p : ℕ) → p < length t.instances → end_in after p ≡ end_then event p (end_in before p)
  pub frames : (p : ℕ) → p < length t.instances → IsFrameAfter t event p (frame_in before p) (frame_in after p)
