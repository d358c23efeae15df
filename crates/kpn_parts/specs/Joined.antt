-- Runs of all parts of a network in one order of all events. Each part is a run of its own, and what it is fed on a cut
-- channel was put there before. That the feeds of each part are what another put, at the end, does not suffice: two
-- parts could vouch for each other for items that nobody made.
use Rattle.std.specs.Prelude.{◌≡◌, ℕ, ◌<◌, length, Bool, true, nat_eq, if◌then◌else◌, List, [], ◌∷◌}
use Rattle.std.specs.List.{flat_map}
use Rattle.kpn_lang.specs.Prefix.{IsPrefix}
use Rattle.kpn_net.specs.Tables.{Tables, channel_at, is_source, is_sink}
use Rattle.kpn_history.specs.declared.event.Event.{Event}
use Rattle.kpn_history.specs.declared.event.Event.TheVariants.{Get, Put, WaitEmpty, WaitFull, Ended, Feed, Close, Take, Leave, Grow}
use Rattle.kpn_history.specs.Channels.{written_on}
use Rattle.kpn_history.specs.Legal.{Legal}
use Rattle.kpn_history.specs.Ends.{IsQuiet}
use Rattle.kpn_history.specs.Waiting.{wait_of}
use Rattle.kpn_net.specs.declared.wait.Wait.TheVariants.{Empty}
use Rattle.kpn_parts.specs.declared.order.PartEvent.{PartEvent}
use Rattle.kpn_parts.specs.Cut.{Part, whole_process, whole_channel, part_at, IsCutSource}

-- ---- the events of each part

abbrev pub event_of : (r : ℕ) → PartEvent → List Event
event_of r placed = if nat_eq placed.part r then placed.event ∷ [] else []

-- the history of part r: its events, in this order
abbrev pub events_of_part : (r : ℕ) → List PartEvent → List Event
events_of_part r order = flat_map (event_of r) order

-- ---- the events of the whole

-- an event of a part, with the numbers of the whole
abbrev pub in_whole : Part → Event → Event
in_whole part (Get p c v) = Get (whole_process part p) (whole_channel part c) v
in_whole part (Put p c v) = Put (whole_process part p) (whole_channel part c) v
in_whole part (WaitEmpty p c) = WaitEmpty (whole_process part p) (whole_channel part c)
in_whole part (WaitFull p c) = WaitFull (whole_process part p) (whole_channel part c)
in_whole part (Ended p how) = Ended (whole_process part p) how
in_whole part (Feed c v) = Feed (whole_channel part c) v
in_whole part (Close c) = Close (whole_channel part c)
in_whole part (Take c v) = Take (whole_channel part c) v
in_whole part (Leave c) = Leave (whole_channel part c)
in_whole part (Grow p c n) = Grow (whole_process part p) (whole_channel part c) n

-- an event of the whole: all but those by which the outside of a part only moves items from part to part
abbrev pub is_of_whole : Tables → Event → Bool
is_of_whole t (Feed c v) = is_source (channel_at t c)
is_of_whole t (Close c) = is_source (channel_at t c)
is_of_whole t (Take c v) = is_sink (channel_at t c)
is_of_whole t (Leave c) = is_sink (channel_at t c)
is_of_whole t event = true

abbrev pub counted : Tables → Event → List Event
counted t event = if is_of_whole t event then event ∷ [] else []

abbrev pub whole_event : Tables → List Part → PartEvent → List Event
whole_event t cut placed = counted t (in_whole (part_at cut placed.part) placed.event)

-- the history of the whole: the events of all parts in this order, with the numbers of the whole
abbrev pub whole_history : Tables → List Part → List PartEvent → List Event
whole_history t cut order = flat_map (whole_event t cut) order

-- ---- joined runs

-- what part r was fed on its channel c begins what was put there in the whole
abbrev pub IsSent : Tables → List Part → List PartEvent → (r c : ℕ) → Type 0
IsSent t cut order r c =
    IsPrefix (written_on (events_of_part r order) c)
    (written_on (whole_history t cut order) (whole_channel (part_at cut r) c))

-- the history of each part is legal there
abbrev pub AreLegal : List Part → List PartEvent → Type 0
AreLegal cut order = (r : ℕ) → Legal (part_at cut r).tables (events_of_part r order)

-- runs of all parts in one order: each part has a legal history, and at each moment what a part was fed on a cut
-- channel begins what was put there
pub record IsJoined (t : Tables) (cut : List Part) (order : List PartEvent) : Type 0 where
  pub legal : AreLegal cut order
  pub sent : (begun : List PartEvent) → IsPrefix begun order → (r c : ℕ) → IsCutSource t (part_at cut r) c
      → IsSent t cut begun r c

-- part r was fed on its channel c all that was put there in the whole
abbrev pub HasAll : Tables → List Part → List PartEvent → (r c : ℕ) → Type 0
HasAll t cut order r c =
    written_on (events_of_part r order) c
    ≡ written_on (whole_history t cut order) (whole_channel (part_at cut r) c)

-- nothing is on the way: each part was fed on each cut channel all that was put there
pub record IsDelivered (t : Tables) (cut : List Part) (order : List PartEvent) : Type 0 where
  pub each : (r c : ℕ) → IsCutSource t (part_at cut r) c → HasAll t cut order r c

-- each part is at rest: its processes have ended or wait on empty channels
abbrev pub AreQuiet : List Part → List PartEvent → Type 0
AreQuiet cut order = (r : ℕ) → IsQuiet (part_at cut r).tables (events_of_part r order)

-- the whole is at rest: each part is, and what a process waits for is not on the way
pub record AreAtRest (t : Tables) (cut : List Part) (order : List PartEvent) : Type 0 where
  pub quiet : AreQuiet cut order
  pub settled : (r p c : ℕ) → p < length (part_at cut r).tables.instances
      → wait_of (part_at cut r).tables (events_of_part r order) p ≡ Empty c → HasAll t cut order r c
