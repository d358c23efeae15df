-- Histories of one network that differ by their schedules, and the ticks of each process.
use Rattle.std.specs.Prelude.{◌≡◌, ℕ, Bool, false, nat_eq, if◌then◌else◌, List, [], ◌∷◌, ◌++◌, Option, None, slice_index_or}
use Rattle.std.specs.List.{list_any}
use Rattle.kpn_net.specs.Tables.{Tables}
use Rattle.kpn_history.specs.declared.event.Event.{Event}
use Rattle.kpn_history.specs.declared.event.Event.TheVariants.{Get, Put}
use Rattle.kpn_history.specs.Talks.{talk_of}
use Rattle.kpn_history.specs.Channels.{is_growth_of}
use Rattle.kpn_ticks.specs.Ticks.{Clocks, get_tick, put_tick, clocks_with_event, start}

-- what each of these events shows, after those before it
abbrev pub seen_from : {A : Type 0} → (Clocks → Event → List A) → Tables → Clocks → List Event → List A
seen_from see t s [] = []
seen_from see t s (event ∷ events) = see s event ++ seen_from see t (clocks_with_event t s event) events

-- the tick of an event if process p gets or puts by it
abbrev pub tick_in : Tables → (p : ℕ) → Clocks → Event → List ℕ
tick_in t p s (Get q c v) = if nat_eq q p then get_tick s q c ∷ [] else []
tick_in t p s (Put q c v) = if nat_eq q p then put_tick t s q c ∷ [] else []
tick_in t p s event = []

-- the ticks of the gets and puts of a process, in order
abbrev pub ticks_of : Tables → (has_capacities : Bool) → List Event → (p : ℕ) → List ℕ
ticks_of t has_capacities H p = seen_from (tick_in t p) t (start t has_capacities) H

-- the capacity that a channel has at a put
abbrev pub capacity_in : (c : ℕ) → Clocks → Event → List (Option ℕ)
capacity_in c s (Put q d v) = if nat_eq d c then slice_index_or s.capacities d None ∷ [] else []
capacity_in c s event = []

-- the capacities that a channel has at the puts on it, in order
abbrev pub capacities_of : Tables → (has_capacities : Bool) → List Event → (c : ℕ) → List (Option ℕ)
capacities_of t has_capacities H c = seen_from (capacity_in c) t (start t has_capacities) H

-- each process gets and puts the same in both, and at each put its channel has the same capacity in both
pub record DifferBySchedule (t : Tables) (has_capacities : Bool) (H G : List Event) : Type 0 where
  pub talks : (p : ℕ) → talk_of H p ≡ talk_of G p
  pub capacities : (c : ℕ) → capacities_of t has_capacities H c ≡ capacities_of t has_capacities G c

-- no channel grows
abbrev pub GrowsNothing : List Event → Type 0
GrowsNothing H = (c : ℕ) → list_any (is_growth_of c) H ≡ false
