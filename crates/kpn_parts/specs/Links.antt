-- Links: channels between two parts. They say what a join has to know of a cut.
use Rattle.std.specs.Prelude.{◌≡◌, ℕ, ◌+◌, ◌<◌, ◌≤◌, true, ℤ, List, [], ◌∷◌, ◌++◌, length, take, slice_get, slice_index_or, Contains, All, Option, Some, None}
use Rattle.std.specs.List.{flat_map}
use Rattle.kpn_lang.specs.Prefix.{IsPrefix}
use Rattle.kpn_net.specs.Tables.{Tables, channel_at, is_sink}
use Rattle.kpn_history.specs.declared.event.Event.{Event}
use Rattle.kpn_history.specs.Channels.{written_in, written_on}
use Rattle.kpn_parts.specs.declared.order.PartEvent.{PartEvent}
use Rattle.kpn_parts.specs.declared.link.PartLink.{PartLink}
use Rattle.kpn_parts.specs.declared.joining.Carried.{Carried}
use Rattle.kpn_parts.specs.declared.joining.Joined.{Joined}
use Rattle.kpn_parts.specs.declared.joining.Joined.TheVariants.{Whole, Stuck}
use Rattle.kpn_parts.specs.Cut.{Part, whole_channel, part_at, IsCutSource}
use Rattle.kpn_parts.specs.Joined.{event_of, events_of_part}

-- what the one part put on the link
abbrev pub put_on_link : List PartEvent → PartLink → List ℤ
put_on_link order link = written_on (events_of_part link.writer order) link.sink

-- what the other part was fed on it
abbrev pub fed_on : List PartEvent → PartLink → List ℤ
fed_on order link = written_on (events_of_part link.reader order) link.source

-- at each moment, what the one part was fed on the link begins what the other put
abbrev pub IsSentOn : List PartEvent → PartLink → Type 0
IsSentOn order link =
    (begun : List PartEvent) → IsPrefix begun order → IsPrefix (fed_on begun link) (put_on_link begun link)

-- the same on each of these links
abbrev pub AreSent : List PartLink → List PartEvent → Type 0
AreSent links order = All (IsSentOn order) links

-- the link ends in source c of part r, and begins in the sink of a part that is the same channel of the whole
pub record EndsIn (cut : List Part) (link : PartLink) (r c : ℕ) : Type 0 where
  pub reader : link.reader ≡ r
  pub source : link.source ≡ c
  pub sink : is_sink (channel_at (part_at cut link.writer).tables link.sink) ≡ true
  pub same : whole_channel (part_at cut link.writer) link.sink ≡ whole_channel (part_at cut r) c

pub record HasLink (cut : List Part) (links : List PartLink) (r c : ℕ) : Type 0 where
  pub link : PartLink
  pub among : Contains links link
  pub ends : EndsIn cut link r c

-- these are the links of a cut: one ends in each cut source
pub record AreLinks (t : Tables) (cut : List Part) (links : List PartLink) : Type 0 where
  pub each : (r c : ℕ) → IsCutSource t (part_at cut r) c → HasLink cut links r c

-- ---- joins of histories

abbrev pub history_at : List (List Event) → ℕ → List Event
history_at histories r = slice_index_or histories r []

-- an order of all events of these histories, in which what each part was fed on a link was put there before
pub record IsJoinOf (histories : List (List Event)) (links : List PartLink) (order : List PartEvent) : Type 0 where
  pub whole : (r : ℕ) → events_of_part r order ≡ history_at histories r
  pub sent : AreSent links order

-- event k of part r comes in no order in which each part has a beginning of its history, and what it was fed on a link
-- was put there before
pub record ComesInNone (histories : List (List Event)) (links : List PartLink) (r k : ℕ) : Type 0 where
  pub there : k < length (history_at histories r)
  pub never : (order : List PartEvent)
      → ((s : ℕ) → IsPrefix (events_of_part s order) (history_at histories s)) → AreSent links order
      → length (events_of_part r order) ≤ k

-- what a join comes to
abbrev pub JoinComesTo : List (List Event) → List PartLink → Joined → Type 0
JoinComesTo histories links (Whole order) = IsJoinOf histories links order
JoinComesTo histories links (Stuck r k) = ComesInNone histories links r k

-- ---- scaffolding: what the code keeps

-- these items were put on the link, this many were fed, and all was put before
pub record IsCarriedOn (link : PartLink) (order : List PartEvent) (items : List ℤ) (fed : ℕ) : Type 0 where
  pub put : items ≡ put_on_link order link
  pub count : fed ≡ length (fed_on order link)
  pub sent : IsSentOn order link

abbrev pub IsCarried : PartLink → List PartEvent → Carried → Type 0
IsCarried link order carried = IsCarriedOn link order carried.items.items carried.fed

-- the same of each link
pub record AreCarried (links : List PartLink) (order : List PartEvent) (carried : List Carried) : Type 0 where
  pub same : length carried ≡ length links
  pub each : (l : ℕ) (x : PartLink) (d : Carried) → l < length links
      → IsCarried (slice_index_or links l x) order (slice_index_or carried l d)

-- nothing was put on this many links
pub record CarryNothing (carried : List Carried) (n : ℕ) : Type 0 where
  pub count : length carried ≡ n
  pub each : (l : ℕ) (d : Carried) → l < n
      → ((slice_index_or carried l d).items.items ≡ []) × ((slice_index_or carried l d).fed ≡ 0)

-- with this event at the end of the order all is still put before
abbrev pub MayCome : List PartLink → List PartEvent → PartEvent → Type 0
MayCome links order placed = AreSent links (order ++ placed ∷ [])

-- no more items were fed than put
abbrev pub FedAtMost : List Carried → Type 0
FedAtMost carried =
    (l : ℕ) (d : Carried) → l < length carried
    → (slice_index_or carried l d).fed ≤ length (slice_index_or carried l d).items.items

-- the links below n carry what they did and this event, if it may come, and the others what they did
pub record CarryMore (links : List PartLink) (placed : PartEvent) (old new : List Carried) (n : ℕ) : Type 0 where
  pub same : length new ≡ length old
  pub below : (l : ℕ) (x : PartLink) (d : Carried) → l < n → (order : List PartEvent)
      → IsCarried (slice_index_or links l x) order (slice_index_or old l d)
      → IsSentOn (order ++ placed ∷ []) (slice_index_or links l x)
      → IsCarried (slice_index_or links l x) (order ++ placed ∷ []) (slice_index_or new l d)
  pub above : (l : ℕ) (d : Carried) → n ≤ l → slice_index_or new l d ≡ slice_index_or old l d

-- the order has as many events of each part as `at` says, from the first on, and the links carry what it says
pub record SoFar (histories : List (List Event)) (links : List PartLink) (at : List ℕ) (order : List PartEvent)
    (carried : List Carried) : Type 0 where
  pub parts : length at ≡ length histories
  pub each : (r : ℕ) → events_of_part r order ≡ take (slice_index_or at r 0) (history_at histories r)
  pub on_links : AreCarried links order carried

-- the next event of part r may not come
abbrev pub StandsStill : List (List Event) → List PartLink → (at : List ℕ) → List PartEvent → (r : ℕ) → Type 0
StandsStill histories links at order r =
    (d : Event) → slice_index_or at r 0 < length (history_at histories r)
    → ¬ MayCome links order (record {
      part = r;
      event = slice_index_or (history_at histories r) (slice_index_or at r 0) d;
    })

-- no event of any part may come
abbrev pub IsStuck : List (List Event) → List PartLink → (at : List ℕ) → List PartEvent → Type 0
IsStuck histories links at order = (r : ℕ) → StandsStill histories links at order r

-- the order has all events
abbrev pub UsesAll : List (List Event) → List ℕ → Type 0
UsesAll histories at = (r : ℕ) → length (history_at histories r) ≤ slice_index_or at r 0

-- what an event of a part writes on channel c of part r
abbrev pub items_on : (r c : ℕ) → PartEvent → List ℤ
items_on r c placed = flat_map (written_in c) (event_of r placed)

abbrev pub items_of : Option ℤ → List ℤ
items_of None = []
items_of (Some v) = v ∷ []

-- this many items are fed after this feed
abbrev pub fed_after : (fed : ℕ) → Option ℤ → ℕ
fed_after fed None = fed
fed_after fed (Some v) = fed + 1

-- the feed, if there is one, feeds the item at this place
abbrev pub IsNext : List ℤ → (place : ℕ) → Option ℤ → Type 0
IsNext items place None = Unit {0}
IsNext items place (Some v) = slice_get items place ≡ Some v

-- this many of these items are fed after this feed, which feeds the next one
abbrev pub FeedsNext : List ℤ → (fed : ℕ) → Option ℤ → (now : ℕ) → Type 0
FeedsNext items fed None now = now ≡ fed
FeedsNext items fed (Some v) now = (now ≡ fed + 1) × (slice_get items fed ≡ Some v)
