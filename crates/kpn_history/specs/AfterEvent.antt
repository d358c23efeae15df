-- What is left of a channel and its ends after one more event, by cases of the event. What the event writes and reads,
-- and what a process says in it, is defined beside the lists that these make up.
use Rattle.std.specs.Prelude.{ℕ, Bool, false, nat_eq, if◌then◌else◌, Option}
use Rattle.std.specs.Option.{option_map}
use Rattle.kpn_net.specs.declared.tables.End.{End}
use Rattle.kpn_net.specs.declared.tables.End.TheVariants.{Process, Source, Sink}
use Rattle.kpn_net.specs.Tables.{Tables, larger_capacity, reader_of}
use Rattle.kpn_history.specs.declared.event.Event.{Event}
use Rattle.kpn_history.specs.declared.event.Event.TheVariants.{Grow}
use Rattle.kpn_history.specs.Talks.{is_end_of}
use Rattle.kpn_history.specs.Channels.{is_leave_of}

-- a capacity after the event: a growth of the channel makes it larger
abbrev pub capacity_then : Tables → (c : ℕ) → Event → Option ℕ → Option ℕ
capacity_then t c (Grow p d n) capacity = if nat_eq d c then option_map (larger_capacity t) capacity else capacity
capacity_then t c event capacity = capacity

-- the event takes this end of the channel away: the process ends, or the caller leaves the sink
abbrev pub takes_end : (c : ℕ) → Event → End → Bool
takes_end c event (Process p) = is_end_of p event
takes_end c event Source = false
takes_end c event Sink = is_leave_of c event

-- the event takes the reader of the channel away
abbrev pub takes_reader : Tables → (c : ℕ) → Event → Bool
takes_reader t c event = takes_end c event (reader_of t c)
