-- Which history a stored trace gives, and under which rules of growth it is audited. A trace of version 2 names its
-- policy and its growth, and each growth in it names the new capacity. One of version 1 does not: it is audited under
-- the policy `cycles` and the growth `one`, whatever the network says.
use Rattle.std.specs.Prelude.{◌≡◌, ℕ, ◌+◌, nat_lt, if◌then◌else◌, List, [], ◌∷◌, ◌++◌, length, Option, Some, None}
use Rattle.kpn_net.specs.declared.tables.Policy.TheVariants.{Cycles}
use Rattle.kpn_net.specs.declared.tables.Growth.TheVariants as growth
use Rattle.kpn_net.specs.Tables.{Tables, under}
use Rattle.kpn_history.specs.declared.event.Event.{Event}
use Rattle.kpn_history.specs.declared.event.Event.TheVariants.{Grow}
use Rattle.kpn_history.specs.declared.stored.Version.{Version}
use Rattle.kpn_history.specs.declared.stored.Version.TheVariants.{One, Two}
use Rattle.kpn_history.specs.declared.stored.Trace.{Trace}
use Rattle.kpn_history.specs.Channels.{capacity_after}

-- ---- which rules

-- the tables under which a trace of this version is audited
abbrev pub audited_under : Version → Tables → Tables
audited_under One t = under Cycles growth.One t
audited_under Two t = t

-- the trace is of version 2, and the policy or the growth that it names is not that of the network
pub record Differs {A : Type 0} (t : Tables) (trace : Trace A) : Type 0 where
  pub version : trace.version ≡ Two
  pub other : ¬ ((trace.policy ≡ t.policy) × (trace.growth ≡ t.growth))

-- ---- which history

-- one more than this capacity; the number stays if there is none
abbrev pub one_larger : Option ℕ → (n : ℕ) → ℕ
one_larger None n = n
one_larger (Some cap) n = cap + 1

-- an event of version 1 after the events B. Its growth makes the capacity of a channel of the network one larger: the
-- new one is the first capacity and the number of the channel's growths up to this one
abbrev pub told : Tables → (B : List Event) → Event → Event
told t B (Grow p c n) = Grow p c (if nat_lt c (length t.channels) then one_larger (capacity_after t B c) n else n)
told t B event = event

-- the events of version 1 after B, each growth with its new capacity
abbrev pub told_behind : Tables → (B events : List Event) → List Event
told_behind t B [] = []
told_behind t B (event ∷ events) = told t B event ∷ told_behind t (B ++ told t B event ∷ []) events

-- the history that events of this version give
abbrev pub history_of : Version → Tables → List Event → List Event
history_of One t events = told_behind t [] events
history_of Two t events = events

-- ---- both of a trace

abbrev pub tables_for : {A : Type 0} → Tables → Trace A → Tables
tables_for t trace = audited_under trace.version t

abbrev pub history_in : {A : Type 0} → Tables → Trace A → List Event
history_in t trace = history_of trace.version (tables_for t trace) trace.events

-- ---- scaffolding

-- an event of this version after the events B
abbrev pub told_in : Version → Tables → (B : List Event) → Event → Event
told_in One t B event = told t B event
told_in Two t B event = event

-- the new capacity that a growth of channel c names, said of the channel's capacity now
abbrev pub told_capacity : Tables → (now : Option ℕ) → (c n : ℕ) → ℕ
told_capacity t now c n = if nat_lt c (length t.channels) then one_larger now n else n
