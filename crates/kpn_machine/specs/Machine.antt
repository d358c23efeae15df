-- The machine of a network: the states of its processes and the contents of its channels at one moment of a
-- run.
use Rattle.std.specs.Prelude.{◌≡◌, ℕ, ◌<◌, ◌≤◌, ℤ, Bool, true, false, not, IsTrue, is_some, List, [], length, map, Option, Some, None, slice_index_or, slice_set}
use Rattle.std.specs.List.{list_all}
use Rattle.std.specs.Option.{unwrap_or}
use Rattle.kpn_net.specs.declared.wait.Wait.{Wait}
use Rattle.kpn_net.specs.declared.wait.Wait.TheVariants.{Nobody, Empty, Full}
use Rattle.kpn_net.specs.Tables.{Tables, channel_at, is_source, program_of}
use Rattle.kpn_net.specs.Waits.{wait_at, AreWaits}
use Rattle.kpn_step.specs.Frame.{Frame, fits}
use Rattle.kpn_chan.specs.Channel.{ChannelState, opened}
use Rattle.kpn_history.specs.declared.event.How.{How}

-- for each channel what it holds and whether it is closed; for each process what it waits for, how it ended if it did,
-- and its frame
pub record Machine : Type 0 where
  pub channels : List ChannelState
  pub closed : List Bool
  pub waits : List Wait
  pub ends : List (Option How)
  pub frames : List Frame

-- ---- its parts by number

-- the channel with a number; an empty one for a number that no channel has
abbrev pub channel_in : Machine → ℕ → ChannelState
channel_in s c = slice_index_or s.channels c (opened None false)

abbrev pub closed_in : Machine → ℕ → Bool
closed_in s c = slice_index_or s.closed c false

abbrev pub wait_in : Machine → ℕ → Wait
wait_in s p = wait_at s.waits p

abbrev pub end_in : Machine → ℕ → Option How
end_in s p = slice_index_or s.ends p None

-- a frame without variables
abbrev pub no_frame : Frame
no_frame = record { outer = []; inner = record { block = 0; place = 0 }; variables = [] }

-- the frame of a process; no_frame for a number that no process has
abbrev pub frame_in : Machine → ℕ → Frame
frame_in s p = slice_index_or s.frames p no_frame

-- the capacity of each channel, 0 if it has none
abbrev pub capacities : Machine → List ℕ
capacities s = map (λ c. unwrap_or c.capacity 0) s.channels

-- every item that was put on a channel
abbrev pub all_put : ChannelState → List ℤ
all_put c = c.journal

-- all items of each channel are kept in memory
abbrev pub AreKept : Machine → Type 0
AreKept s = (c : ℕ) → c < length s.channels → IsTrue (channel_in s c).is_kept

-- the same as a test
abbrev pub are_kept : List ChannelState → Bool
are_kept channels = list_all (λ channel. channel.is_kept) channels

-- ---- a machine of a network

-- it has a channel and a mark for each channel of the network, and a wait, an end and a frame for each process. A
-- source has no capacity; each other channel has one, which is not 0, and no more items were ever unread there while
-- its reader was there. Each process waits on a channel of its own, and its frame is one of its program. If a process
-- waits on a channel as full, an item is reserved there
pub record IsMachine (t : Tables) (s : Machine) : Type 0 where
  pub channels : length s.channels ≡ length t.channels
  pub closed : length s.closed ≡ length t.channels
  pub ends : length s.ends ≡ length t.instances
  pub frames : length s.frames ≡ length t.instances
  pub waits : AreWaits t s.waits
  pub bounded : (c : ℕ) → c < length t.channels → is_some (channel_in s c).capacity ≡ not (is_source (channel_at t c))
  pub positive : (c cap : ℕ) → c < length t.channels → (channel_in s c).capacity ≡ Some cap → 0 < cap
  pub within : (c cap : ℕ) → c < length t.channels → (channel_in s c).capacity ≡ Some cap
      → (channel_in s c).most ≤ cap
  pub fit : (p : ℕ) → p < length t.instances → IsTrue (fits (program_of t p) (frame_in s p))
  pub reserved : (p c : ℕ) → p < length t.instances → c < length t.channels → wait_in s p ≡ Full c
      → IsTrue (channel_in s c).is_reserved

-- a process has not ended and waits for nobody
pub record IsFree (s : Machine) (p : ℕ) : Type 0 where
  pub lives : end_in s p ≡ None
  pub free : wait_in s p ≡ Nobody

-- ---- tests of what a process waits for

-- it waits on a channel as empty
abbrev pub is_empty_wait : Wait → Bool
is_empty_wait (Empty c) = true
is_empty_wait wait = false

-- it waits on a channel as full
abbrev pub is_full_wait : Wait → Bool
is_full_wait (Full c) = true
is_full_wait wait = false

-- ---- one part changed

abbrev pub with_channel : (c : ℕ) → ChannelState → Machine → Machine
with_channel c channel s = record s { channels = slice_set s.channels c channel }

abbrev pub with_frame : (p : ℕ) → Frame → Machine → Machine
with_frame p frame s = record s { frames = slice_set s.frames p frame }

-- ---- parts that the code changes one by one; a reader of the public contracts needs none of it

abbrev pub with_closed : (c : ℕ) → Machine → Machine
with_closed c s = record s { closed = slice_set s.closed c true }

abbrev pub with_waits : List Wait → Machine → Machine
with_waits waits s = record s { waits = waits }

abbrev pub with_end : (p : ℕ) → How → Machine → Machine
with_end p how s = record s { ends = slice_set s.ends p (Some how) }
