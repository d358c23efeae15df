-- Which items the device of one source gave, and which that of one sink took, whatever was asked of the others.
use Rattle.std.specs.Prelude.{◌≡◌, ◌≢◌, ◌⊎◌, ℕ, Bool, true, false, ℤ, List, [], ◌∷◌, ◌++◌, Option, Some, None, Result, Ok, Err}
use Rattle.kpn_lang.specs.Prefix.{IsPrefix}
use Rattle.kpn_history.specs.declared.event.Event.{Event}
use Rattle.kpn_history.specs.Channels.{written_on, read_on, is_closed}
use Rattle.kpn_stream.specs.declared.faults.SourceFault.{SourceFault}
use Rattle.kpn_stream.specs.declared.faults.SourceFault.TheVariants as source_fault
use Rattle.kpn_stream.specs.declared.faults.SinkFault.{SinkFault}
use Rattle.kpn_stream.specs.declared.faults.SinkFault.TheVariants as sink_fault

-- ---- the sources

-- From the first devices to these, by calls one after the other, the device of source c gave these items, in this
-- order, and has told the end of its input or not. A fault gives nothing, nor does a look or a call for another source.
pub data Gave {S : Type 0} (gives : S → ℕ → Result (Option ℤ) SourceFault → S → Type 0) (looks : S → ℕ → S → Type 0)
    (first : S) (c : ℕ) : List ℤ → (ended : Bool) → S → Type 0 where
  nothing_given : Gave gives looks first c [] false first
  gave : (xs : List ℤ) (v : ℤ) (before now : S) → Gave gives looks first c xs false before →
      gives before c (Ok (Some v)) now → Gave gives looks first c (xs ++ v ∷ []) false now
  told_end : (xs : List ℤ) (before now : S) → Gave gives looks first c xs false before →
      gives before c (Ok None) now → Gave gives looks first c xs true now
  gave_not : (xs : List ℤ) (ended : Bool) (fault : SourceFault) (before now : S) →
      Gave gives looks first c xs ended before → gives before c (Err fault) now → Gave gives looks first c xs ended now
  any_looked : (xs : List ℤ) (ended : Bool) (d : ℕ) (before now : S) → Gave gives looks first c xs ended before →
      looks before d now → Gave gives looks first c xs ended now
  another_gave : (xs : List ℤ) (ended : Bool) (d : ℕ) (answer : Result (Option ℤ) SourceFault) (before now : S) →
      Gave gives looks first c xs ended before → d ≢ c → gives before d answer now →
      Gave gives looks first c xs ended now

-- memory ran out before the last answer of source c could be fed: what it was fed is what its device gave before
pub record GaveInVain {S : Type 0} (gives : S → ℕ → Result (Option ℤ) SourceFault → S → Type 0)
    (looks : S → ℕ → S → Type 0) (first : S) (c : ℕ) (H : List Event) (failed : Option (ℕ × SourceFault)) (now : S)
    : Type 0 where
  pub no_memory : failed ≡ Some (c, source_fault.NoMemory)
  pub before : S
  pub given : Option ℤ
  pub fed : Gave gives looks first c (written_on H c) (is_closed H c) before
  pub last : gives before c (Ok given) now

-- source c was fed what its device gave, and is closed if the device told the end
abbrev pub WasGiven : {S : Type 0} → (gives : S → ℕ → Result (Option ℤ) SourceFault → S → Type 0)
    → (looks : S → ℕ → S → Type 0) → (first : S) → (c : ℕ) → List Event → (failed : Option (ℕ × SourceFault))
    → (now : S) → Type 0
WasGiven gives looks first c H failed now =
    Gave gives looks first c (written_on H c) (is_closed H c) now ⊎ GaveInVain gives looks first c H failed now

-- the device of source c gives this list: whatever it answers, that begins the list, and the end comes after all of it
abbrev pub GivesList : {S : Type 0} → (gives : S → ℕ → Result (Option ℤ) SourceFault → S → Type 0)
    → (looks : S → ℕ → S → Type 0) → (first : S) → (c : ℕ) → List ℤ → Type 0
GivesList {S} gives looks first c list = (xs : List ℤ) (ended : Bool) (now : S)
    → Gave gives looks first c xs ended now → IsPrefix xs list × (ended ≡ true → xs ≡ list)

-- what each device still gives is this list: an item is its first one, and the end comes once it is empty. A fault, a
-- look, or a call for another source leaves it as it is
pub record GiveInTurn {S : Type 0} (gives : S → ℕ → Result (Option ℤ) SourceFault → S → Type 0)
    (looks : S → ℕ → S → Type 0) (ahead : S → (c : ℕ) → List ℤ) : Type 0 where
  pub item : (s now : S) (c : ℕ) (v : ℤ) → gives s c (Ok (Some v)) now → ahead s c ≡ v ∷ ahead now c
  pub end : (s now : S) (c : ℕ) → gives s c (Ok None) now → ahead s c ≡ []
  pub fault : (s now : S) (c : ℕ) (why : SourceFault) → gives s c (Err why) now → ahead now c ≡ ahead s c
  pub look : (s now : S) (c d : ℕ) → looks s d now → ahead now c ≡ ahead s c
  pub others : (s now : S) (c d : ℕ) (answer : Result (Option ℤ) SourceFault) → gives s d answer now → d ≢ c
      → ahead now c ≡ ahead s c

-- ---- the sinks

-- From the first devices to these, by calls one after the other, the device of sink c took these items, in this order. A
-- fault takes nothing, nor does a flush or a call for another sink.
pub data Took {K : Type 0} (takes : K → ℕ → ℤ → Result (Unit {0}) SinkFault → K → Type 0)
    (flushes : K → ℕ → Result (Unit {0}) SinkFault → K → Type 0) (first : K) (c : ℕ) : List ℤ → K → Type 0 where
  nothing_taken : Took takes flushes first c [] first
  took_item : (xs : List ℤ) (v : ℤ) (before now : K) → Took takes flushes first c xs before →
      takes before c v (Ok tt) now → Took takes flushes first c (xs ++ v ∷ []) now
  took_none : (xs : List ℤ) (v : ℤ) (fault : SinkFault) (before now : K) → Took takes flushes first c xs before →
      takes before c v (Err fault) now → Took takes flushes first c xs now
  another_took : (xs : List ℤ) (d : ℕ) (v : ℤ) (answer : Result (Unit {0}) SinkFault) (before now : K) →
      Took takes flushes first c xs before → d ≢ c → takes before d v answer now → Took takes flushes first c xs now
  any_flushed : (xs : List ℤ) (d : ℕ) (answer : Result (Unit {0}) SinkFault) (before now : K) →
      Took takes flushes first c xs before → flushes before d answer now → Took takes flushes first c xs now

-- memory ran out before the last item that the device of sink c took could be taken: what was taken is what it took
-- before
pub record TookInVain {K : Type 0} (takes : K → ℕ → ℤ → Result (Unit {0}) SinkFault → K → Type 0)
    (flushes : K → ℕ → Result (Unit {0}) SinkFault → K → Type 0) (first : K) (c : ℕ) (H : List Event)
    (failed : Option (ℕ × SinkFault)) (now : K) : Type 0 where
  pub no_memory : failed ≡ Some (c, sink_fault.NoMemory)
  pub before : K
  pub item : ℤ
  pub taken : Took takes flushes first c (read_on H c) before
  pub last : takes before c item (Ok tt) now

-- the device of sink c took what was taken from the sink
abbrev pub WasTaken : {K : Type 0} → (takes : K → ℕ → ℤ → Result (Unit {0}) SinkFault → K → Type 0)
    → (flushes : K → ℕ → Result (Unit {0}) SinkFault → K → Type 0) → (first : K) → (c : ℕ) → List Event
    → (failed : Option (ℕ × SinkFault)) → (now : K) → Type 0
WasTaken takes flushes first c H failed now =
    Took takes flushes first c (read_on H c) now ⊎ TookInVain takes flushes first c H failed now
