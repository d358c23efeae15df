-- Ticks: when the gets and puts of a history take place if each takes one tick and begins as early as it can. A process
-- makes them one after another. A get needs its item, and a put on a channel with a capacity needs room. Nothing else
-- takes time. What is fed is there at tick 0, and what is taken is taken at once.
use Rattle.std.specs.Prelude.{ℕ, ◌+◌, ◌-◌, max, Bool, nat_lt, if◌then◌else◌, List, [], ◌∷◌, ◌++◌, length, map, fold, replicate, Option, Some, None, slice_index_or, slice_set}
use Rattle.kpn_net.specs.declared.tables.End.{End}
use Rattle.kpn_net.specs.declared.tables.End.TheVariants.{Process, Source, Sink}
use Rattle.kpn_net.specs.Tables.{Tables, channel_at, capacity, larger_capacity, reader_of}
use Rattle.kpn_net.specs.Faults.{channel_numbers}
use Rattle.kpn_history.specs.declared.event.Event.{Event}
use Rattle.kpn_history.specs.declared.event.Event.TheVariants.{Get, Put, Feed, Take, Grow}

-- what is known of time after a history: the tick of the latest get or put of each process, 0 before the first; the
-- ticks of the items that were written on each channel and of those that were read from it, oldest first; the capacity
-- of each channel that has one; and the last tick of all
pub record Clocks : Type 0 where
  pub latest : List ℕ
  pub written : List (List ℕ)
  pub read : List (List ℕ)
  pub capacities : List (Option ℕ)
  pub last : ℕ

abbrev pub latest_of : Clocks → (p : ℕ) → ℕ
latest_of s p = slice_index_or s.latest p 0

abbrev pub written_of : Clocks → (c : ℕ) → List ℕ
written_of s c = slice_index_or s.written c []

abbrev pub read_of : Clocks → (c : ℕ) → List ℕ
read_of s c = slice_index_or s.read c []

-- ---- when

-- when the oldest unread item of a channel is there
abbrev pub item_there : Clocks → (c : ℕ) → ℕ
item_there s c = slice_index_or (written_of s c) (length (read_of s c)) 0

-- when there is room for one item more. A capacity is room for the first items. A later one takes the place of the item
-- that is a capacity before it, when that one is read, or when the reader has made its latest get or put and leaves it
abbrev pub room_there : (capacity : Option ℕ) → (written read : List ℕ) → (reader : ℕ) → ℕ
room_there None written read reader = 0
room_there (Some cap) written read reader =
    if nat_lt (length written) cap then 0 else slice_index_or read (length written - cap) reader

-- the latest tick of the reader of a channel; the caller takes no time
abbrev pub latest_at : Clocks → End → ℕ
latest_at s (Process p) = latest_of s p
latest_at s Source = 0
latest_at s Sink = 0

-- the tick of a get of process p from channel c
abbrev pub get_tick : Clocks → (p c : ℕ) → ℕ
get_tick s p c = max (latest_of s p) (item_there s c) + 1

-- the tick of a put of process p on channel c
abbrev pub put_tick : Tables → Clocks → (p c : ℕ) → ℕ
put_tick t s p c =
    max (latest_of s p)
    (room_there (slice_index_or s.capacities c None) (written_of s c) (read_of s c) (latest_at s (reader_of t c))) + 1

-- ---- one event more

-- these lists with one tick more at the end of the list of a channel
abbrev pub with_tick : List (List ℕ) → (c tick : ℕ) → List (List ℕ)
with_tick lists c tick = slice_set lists c (slice_index_or lists c [] ++ tick ∷ [])

abbrev pub clocks_with_get : Clocks → (p c tick : ℕ) → Clocks
clocks_with_get s p c tick =
    record s { latest = slice_set s.latest p tick; read = with_tick s.read c tick; last = max s.last tick }

abbrev pub clocks_with_put : Clocks → (p c tick : ℕ) → Clocks
clocks_with_put s p c tick =
    record s { latest = slice_set s.latest p tick; written = with_tick s.written c tick; last = max s.last tick }

-- a capacity after a growth, which makes none larger that is at the limit
abbrev pub larger : Tables → (cap : ℕ) → ℕ
larger t cap = if nat_lt cap t.limit then larger_capacity t cap else cap

abbrev pub grown_from : Tables → Option ℕ → Option ℕ
grown_from t None = None
grown_from t (Some cap) = Some (larger t cap)

abbrev pub clocks_with_event : Tables → Clocks → Event → Clocks
clocks_with_event t s (Get p c v) = clocks_with_get s p c (get_tick s p c)
clocks_with_event t s (Put p c v) = clocks_with_put s p c (put_tick t s p c)
clocks_with_event t s (Feed c v) = record s { written = with_tick s.written c 0 }
clocks_with_event t s (Take c v) = record s { read = with_tick s.read c (item_there s c) }
clocks_with_event t s (Grow p c n) =
    record s { capacities = slice_set s.capacities c (grown_from t (slice_index_or s.capacities c None)) }
clocks_with_event t s event = s

-- ---- all events

-- before the first event; the capacities are the network's, or there are none
abbrev pub start : Tables → (has_capacities : Bool) → Clocks
start t has_capacities = record {
  latest = replicate (length t.instances) 0;
  written = replicate (length t.channels) [];
  read = replicate (length t.channels) [];
  capacities =
      if has_capacities then map (λ c. capacity (channel_at t c)) (channel_numbers t)
      else replicate (length t.channels) None;
  last = 0;
}

-- after these events
abbrev pub clocks_after : Tables → (has_capacities : Bool) → List Event → Clocks
clocks_after t has_capacities events = fold (clocks_with_event t) (start t has_capacities) events
