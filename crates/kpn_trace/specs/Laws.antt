-- The laws of traces as texts.
use Rattle.std.specs.Prelude.{◌≡◌, ℕ, List}
use Rattle.kpn_history.specs.declared.event.Event.{Event}
use Rattle.kpn_history.specs.declared.stored.Version.{Version}
use Rattle.kpn_history.specs.declared.stored.Trace.{Trace}
use Rattle.kpn_trace.specs.declared.fault.TraceFault.{TraceFault}
use Rattle.kpn_trace.specs.declared.fault.TraceFault.TheVariants.{NoMemory}
use Rattle.kpn_trace.specs.EventLine.{SpellsEvent}
use Rattle.kpn_trace.specs.TraceText.{SpellsTrace, HasBadLine, RefusesTrace}

-- a line spells at most one event in each version
abbrev pub LineSpellsOne : Type 0
LineSpellsOne = (version : Version) (line : List ℕ) (a b : Event) → SpellsEvent version line a
    → SpellsEvent version line b → a ≡ b

-- two traces are one: of one version, of one policy and growth, and with the same events
pub record AreSameTrace {A : Type 0} (x y : Trace A) : Type 0 where
  pub version : x.version ≡ y.version
  pub policy : x.policy ≡ y.policy
  pub growth : x.growth ≡ y.growth
  pub events : x.events ≡ y.events

-- bytes spell at most one trace
abbrev pub TraceSpellsOne : (A : Type 0) → Type 0
TraceSpellsOne A = (bytes : List ℕ) (x y : Trace A) → SpellsTrace bytes x → SpellsTrace bytes y → AreSameTrace x y

-- bytes that spell a trace are refused only if memory runs out
abbrev pub SpelledIsRead : (A : Type 0) → Type 0
SpelledIsRead A = (bytes : List ℕ) (trace : Trace A) → SpellsTrace bytes trace → (fault : TraceFault)
    → RefusesTrace bytes fault → fault ≡ NoMemory

-- bytes have at most one first bad line
abbrev pub OneBadLine : Type 0
OneBadLine = (bytes : List ℕ) (m n : ℕ) → HasBadLine bytes m → HasBadLine bytes n → m ≡ n
