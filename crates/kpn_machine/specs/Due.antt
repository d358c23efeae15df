-- When an event may follow, as a property of the machine before it.
use Rattle.std.specs.Prelude.{◌≡◌, ◌≢◌, ℕ, true, false, ℤ, List, [], Some}
use Rattle.kpn_lang.specs.declared.talk.Ending.{Ending}
use Rattle.kpn_lang.specs.declared.talk.Ending.TheVariants as ending
use Rattle.kpn_net.specs.Tables.{Tables, instance_at, program_of, channel_at, is_source, is_sink}
use Rattle.kpn_step.specs.declared.stop.Stop.{Stop}
use Rattle.kpn_step.specs.declared.stop.Stop.TheVariants.{WantRead, WantWrite, Done, Faulted, Paused}
use Rattle.kpn_step.specs.Stops.{StandsAt}
use Rattle.kpn_chan.specs.Channel.{unread, is_channel_full, next_item}
use Rattle.kpn_history.specs.declared.event.Event.{Event}
use Rattle.kpn_history.specs.declared.event.Event.TheVariants.{Get, Put, WaitEmpty, WaitFull, Ended, Feed, Close, Take, Leave, Grow}
use Rattle.kpn_history.specs.declared.event.How.{How}
use Rattle.kpn_history.specs.Legal.{ending_of}
use Rattle.kpn_machine.specs.Machine.{Machine, channel_in, closed_in, frame_in, IsFree}
use Rattle.kpn_machine.specs.Changes.{IsChannelAt}

-- ---- where a process is

-- process p is at this stop
abbrev pub Stands : Tables → Machine → (p : ℕ) → Stop → Type 0
Stands t s p stop = StandsAt (program_of t p).blocks (frame_in s p) stop

-- process p is free and at this stop, which is no pause
pub record StandsFree (t : Tables) (s : Machine) (p : ℕ) (stop : Stop) : Type 0 where
  pub free : IsFree s p
  pub stands : Stands t s p stop
  pub is_no_pause : stop ≢ Paused

-- process p is at a read from channel c
pub record ReadsFrom (t : Tables) (s : Machine) (p c : ℕ) : Type 0 where
  pub port : ℕ
  pub channel : IsChannelAt (instance_at t p).ins port c
  pub stands : Stands t s p (WantRead port)

-- process p is at a write of this item to channel c
pub record WritesTo (t : Tables) (s : Machine) (p c : ℕ) (v : ℤ) : Type 0 where
  pub port : ℕ
  pub channel : IsChannelAt (instance_at t p).outs port c
  pub stands : Stands t s p (WantWrite port v)

-- the stop of a process that comes to this ending; a pause if it does not end there
abbrev pub stop_for : Ending → Stop
stop_for ending.Done = Done
stop_for (ending.Faulted fault) = Faulted fault
stop_for other = Paused

-- the stop of a process that ends in this way
abbrev pub stop_of : How → Stop
stop_of how = stop_for (ending_of how)

-- ---- when an event is due

-- an event of a process: the process is free, its next statement asks for the event, and its channel is ready for it.
-- An event of the caller: the source is not closed, the sink has this item next, or the sink has not been left. This
-- is for moments that owe no growth, so no growth is due. For a growth see IsOwed
abbrev pub IsDueNow : Tables → Machine → Event → Type 0
IsDueNow t s (Get p c v) = IsFree s p × ReadsFrom t s p c × (next_item (channel_in s c) ≡ Some v)
IsDueNow t s (Put p c v) = IsFree s p × WritesTo t s p c v × (is_channel_full (channel_in s c) ≡ false)
IsDueNow t s (WaitEmpty p c) = IsFree s p × ReadsFrom t s p c × (unread (channel_in s c) ≡ [])
IsDueNow t s (WaitFull p c) = IsFree s p × ((v : ℤ) × WritesTo t s p c v) × (is_channel_full (channel_in s c) ≡ true)
IsDueNow t s (Ended p how) = IsFree s p × Stands t s p (stop_of how)
IsDueNow t s (Feed c v) = (is_source (channel_at t c) ≡ true) × (closed_in s c ≡ false)
IsDueNow t s (Close c) = (is_source (channel_at t c) ≡ true) × (closed_in s c ≡ false)
IsDueNow t s (Take c v) = (is_sink (channel_at t c) ≡ true) × (next_item (channel_in s c) ≡ Some v)
IsDueNow t s (Leave c) = (is_sink (channel_at t c) ≡ true) × ((channel_in s c).is_retired ≡ false)
IsDueNow t s (Grow p d n) = ⊥

-- ---- what the code tests of it; a reader of the public contracts needs none of it

-- the stop is a read at a port that has this channel
abbrev pub IsReadAt : (ports : List ℕ) → (c : ℕ) → Stop → Type 0
IsReadAt ports c stop = (port : ℕ) × IsChannelAt ports port c × (stop ≡ WantRead port)

-- the stop is a write of this item at a port that has this channel
abbrev pub IsWriteAt : (ports : List ℕ) → (c : ℕ) → (v : ℤ) → Stop → Type 0
IsWriteAt ports c v stop = (port : ℕ) × IsChannelAt ports port c × (stop ≡ WantWrite port v)

-- the stop asks for the event, if it is one of a process
abbrev pub AsksFor : Tables → Stop → Event → Type 0
AsksFor t stop (Get p c v) = IsReadAt (instance_at t p).ins c stop
AsksFor t stop (Put p c v) = IsWriteAt (instance_at t p).outs c v stop
AsksFor t stop (WaitEmpty p c) = IsReadAt (instance_at t p).ins c stop
AsksFor t stop (WaitFull p c) = (v : ℤ) × IsWriteAt (instance_at t p).outs c v stop
AsksFor t stop (Ended p how) = stop ≡ stop_of how
AsksFor t stop event = Unit {0}

-- its channel is ready for the event; one of the outside then is due
abbrev pub IsReady : Tables → Machine → Event → Type 0
IsReady t s (Get p c v) = next_item (channel_in s c) ≡ Some v
IsReady t s (Put p c v) = is_channel_full (channel_in s c) ≡ false
IsReady t s (WaitEmpty p c) = unread (channel_in s c) ≡ []
IsReady t s (WaitFull p c) = is_channel_full (channel_in s c) ≡ true
IsReady t s (Ended p how) = Unit {0}
IsReady t s event = IsDueNow t s event
