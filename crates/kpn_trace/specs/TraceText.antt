-- Whole traces: the first lines, and then the line of each event. Every line ends with a line feed, the last too.
use Rattle.std.specs.Prelude.{◌≡◌, ◌≢◌, ℕ, ◌+◌, List, [], ◌∷◌, ◌++◌, length, codes, ⊤}
use Rattle.std.specs.List.{All, flat_map}
use Rattle.kpn_net.specs.declared.tables.Policy.{Policy}
use Rattle.kpn_net.specs.declared.tables.Policy.TheVariants as policies
use Rattle.kpn_net.specs.declared.tables.Growth.{Growth}
use Rattle.kpn_net.specs.declared.tables.Growth.TheVariants as growths
use Rattle.kpn_history.specs.declared.event.Event.{Event}
use Rattle.kpn_history.specs.declared.stored.Version.{Version}
use Rattle.kpn_history.specs.declared.stored.Version.TheVariants.{One, Two}
use Rattle.kpn_history.specs.declared.stored.Trace.{Trace}
use Rattle.kpn_trace.specs.declared.fault.TraceFault.{TraceFault}
use Rattle.kpn_trace.specs.declared.fault.TraceFault.TheVariants.{BadHead, BadEvent, NoMemory}
use Rattle.kpn_trace.specs.EventLine.{line_of, IsInRange}

-- ---- the first lines

-- the first line of a trace, without its line feed
abbrev pub version_line : Version → List ℕ
version_line One = codes "kpn-trace 1"
version_line Two = codes "kpn-trace 2"

-- the second line of a trace of version 2, without its line feed
abbrev pub rules_line : Policy → Growth → List ℕ
rules_line policies.Cycles growths.One = codes "policy cycles grow one"
rules_line policies.Cycles growths.Double = codes "policy cycles grow double"
rules_line policies.All growths.One = codes "policy all grow one"
rules_line policies.All growths.Double = codes "policy all grow double"

-- the lines before those of the events, each with its line feed
abbrev pub head_text : Version → Policy → Growth → List ℕ
head_text One p g = version_line One ++ 10 ∷ []
head_text Two p g = version_line Two ++ 10 ∷ rules_line p g ++ 10 ∷ []

-- a trace of version 1 is one of the policy `cycles` and of growth by one
abbrev pub IsHead : Version → Policy → Growth → Type 0
IsHead One p g = (p ≡ policies.Cycles) × (g ≡ growths.One)
IsHead Two p g = Unit {0}

-- how many lines come before those of the events
abbrev pub head_lines : Version → ℕ
head_lines One = 1
head_lines Two = 2

-- ---- whole traces

-- the line of an event with its line feed
abbrev pub event_text : Version → Event → List ℕ
event_text version event = line_of version event ++ (10 ∷ [])

-- the lines of events in order
abbrev pub events_text : Version → List Event → List ℕ
events_text version events = flat_map (event_text version) events

-- the text of a trace
abbrev pub trace_text : Version → Policy → Growth → List Event → List ℕ
trace_text version p g events = head_text version p g ++ events_text version events

-- the bytes spell a trace of events in range whose text they are
pub record SpellsTrace {A : Type 0} (bytes : List ℕ) (trace : Trace A) : Type 0 where
  pub head : IsHead trace.version trace.policy trace.growth
  pub whole : bytes ≡ trace_text trace.version trace.policy trace.growth trace.events
  pub in_range : All (IsInRange trace.version) trace.events

-- the bytes do not begin with the first lines of a trace
abbrev pub HasBadHead : (bytes : List ℕ) → Type 0
HasBadHead bytes = (version : Version) (p : Policy) (g : Growth) → IsHead version p g → (more : List ℕ)
    → bytes ≢ head_text version p g ++ more

-- after the lines of some events comes something that does not begin with a line of an event; it begins on this line,
-- counted from 1
pub record HasBadLine (bytes : List ℕ) (line : ℕ) : Type 0 where
  pub version : Version
  pub policy : Policy
  pub growth : Growth
  pub head : IsHead version policy growth
  pub before : List Event
  pub in_range : All (IsInRange version) before
  pub rest : List ℕ
  pub whole : bytes ≡ trace_text version policy growth before ++ rest
  pub is_something : rest ≢ []
  pub spells_none : (event : Event) (more : List ℕ) → IsInRange version event
      → rest ≢ event_text version event ++ more
  pub counted : line ≡ length before + head_lines version + 1

-- why bytes are refused as a trace
abbrev pub RefusesTrace : (bytes : List ℕ) → TraceFault → Type 0
RefusesTrace bytes BadHead = HasBadHead bytes
RefusesTrace bytes (BadEvent line) = HasBadLine bytes line
RefusesTrace bytes NoMemory = ⊤
