-- The lists of each channel in a history. As in Kahn 1974, what was written on a channel is the history of its items.
-- As in Parks 1995, a channel has a capacity, and a write to a full one waits.
use Rattle.std.specs.Prelude.{ℕ, zero, suc, Bool, false, not, ◌&&◌, nat_eq, nat_le, if◌then◌else◌, ℤ, List, [], ◌∷◌, length, drop, count_by, Option, Some, None}
use Rattle.std.specs.List.{flat_map, list_any}
use Rattle.std.specs.Option.{option_map, unwrap_or}
use Rattle.kpn_net.specs.declared.tables.End.{End}
use Rattle.kpn_net.specs.declared.tables.End.TheVariants.{Process, Source, Sink}
use Rattle.kpn_net.specs.Tables.{Tables, channel_at, is_source, capacity, larger_capacity, reader_of}
use Rattle.kpn_net.specs.Process.{Family}
use Rattle.kpn_history.specs.declared.event.Event.{Event}
use Rattle.kpn_history.specs.declared.event.Event.TheVariants.{Get, Put, Feed, Close, Take, Leave, Grow}
use Rattle.kpn_history.specs.Talks.{has_ended}

-- ---- items

-- the items that an event writes on a channel
abbrev pub written_in : (c : ℕ) → Event → List ℤ
written_in c (Put p d v) = if nat_eq d c then v ∷ [] else []
written_in c (Feed d v) = if nat_eq d c then v ∷ [] else []
written_in c event = []

-- the items that an event reads from a channel
abbrev pub read_in : (c : ℕ) → Event → List ℤ
read_in c (Get p d v) = if nat_eq d c then v ∷ [] else []
read_in c (Take d v) = if nat_eq d c then v ∷ [] else []
read_in c event = []

-- the journal of a channel: all items that were put on it or fed to it
abbrev pub written_on : List Event → Family
written_on H c = flat_map (written_in c) H

-- the items that were got or taken from it
abbrev pub read_on : List Event → Family
read_on H c = flat_map (read_in c) H

-- what was written without its first items, as many as were read
abbrev pub unread_on : List Event → Family
unread_on H c = drop (length (read_on H c)) (written_on H c)

-- what was written on the sources
abbrev pub fed : Tables → List Event → Family
fed t H c = if is_source (channel_at t c) then written_on H c else []

-- ---- which ends are there

-- the caller closes a source
abbrev pub is_close_of : (c : ℕ) → Event → Bool
is_close_of c (Close d) = nat_eq d c
is_close_of c event = false

-- the caller leaves a sink
abbrev pub is_leave_of : (c : ℕ) → Event → Bool
is_leave_of c (Leave d) = nat_eq d c
is_leave_of c event = false

abbrev pub is_closed : List Event → (c : ℕ) → Bool
is_closed H c = list_any (is_close_of c) H

abbrev pub is_left : List Event → (c : ℕ) → Bool
is_left H c = list_any (is_leave_of c) H

-- the end of a channel lives: a process that has not ended, or the caller if it has not left the sink
abbrev pub lives : List Event → (c : ℕ) → End → Bool
lives H c (Process p) = not (has_ended H p)
lives H c Source = false
lives H c Sink = not (is_left H c)

-- the reader of a channel lives
abbrev pub reader_lives : Tables → List Event → (c : ℕ) → Bool
reader_lives t H c = lives H c (reader_of t c)

-- ---- capacity

-- the channel grows
abbrev pub is_growth_of : (c : ℕ) → Event → Bool
is_growth_of c (Grow p d n) = nat_eq d c
is_growth_of c event = false

-- a capacity after this many growths
abbrev pub after_growths : Tables → (times cap : ℕ) → ℕ
after_growths t zero cap = cap
after_growths t (suc times) cap = larger_capacity t (after_growths t times cap)

-- the capacity: the first one, made larger once for each growth of the channel; a source has none
abbrev pub capacity_after : Tables → List Event → (c : ℕ) → Option ℕ
capacity_after t H c = option_map (after_growths t (count_by (is_growth_of c) H)) (capacity (channel_at t c))

-- the capacity as a number, which is 0 if there is none
abbrev pub capacity_or_zero : Tables → List Event → (c : ℕ) → ℕ
capacity_or_zero t H c = unwrap_or (capacity_after t H c) 0

-- nothing is unread
abbrev pub is_empty : List Event → (c : ℕ) → Bool
is_empty H c = nat_eq (length (unread_on H c)) 0

-- as many items as the capacity, if there is one
abbrev pub reaches : Option ℕ → (items : ℕ) → Bool
reaches None items = false
reaches (Some cap) items = nat_le cap items

-- the channel is no source, its reader lives, and as many items as its capacity are unread
abbrev pub is_full : Tables → List Event → (c : ℕ) → Bool
is_full t H c = reader_lives t H c && reaches (capacity_after t H c) (length (unread_on H c))
