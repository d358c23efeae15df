-- The devices of a stream keep the references to standard input and output.
use Rattle.std.proofs.Common.{◌≡◌, ◌∙◌, ℕ, Bool, false, ℤ, List, Option, Some, None, Result, Ok, Err, refl, ap, subst}
use Rattle.kpn_command_stream.proofs.Common.{Event, SinkFault, SourceInputs, SinkOutputs, InputsGive, InputsLook, by_input, by_none, at_input, at_none, OutputRel, OutputsDo, Document, KnowsEnded, LooksAt, Tables, Book, Limits, StreamEnding, Lost, HandedOn, KnownOfDevices, RanOver}
use Rattle.kpn_stream.specs.declared.faults.SourceFault.{SourceFault}
use Rattle.kpn_stream.specs.Devices.{Fed, Served, at_first, by_others, by_look, by_item, by_end, by_fault, by_no_memory}
use Rattle.kpn_stream.specs.Devices.{none_yet, meanwhile, took, took_not, flushed, flushed_not, took_in_vain, left, left_not, had_enough, had_enough_not}
use Rattle.kpn_stream_devices.specs.SinkOutputs as outputs
use Rattle.kpn_stream.specs.Watching.{Watched, not_yet_seen, by_steps, by_reads, seen}
use Rattle.kpn_command_stream.specs.declared.watching.StreamWatcher.{StreamWatcher}
use Rattle.kpn_command_stream.specs.Command as command

-- a watcher keeps the reference to the place for faults
pub watched_keeps : {E : Type 0} (hears : E → Document → Book → E → Type 0) (t : Tables) (first : StreamWatcher E)
    (H : List Event) (halted : Bool) (now : StreamWatcher E)
    → Watched t KnowsEnded (LooksAt hears) first H halted now → now.err.ghost_name ≡ first.err.ghost_name
watched_keeps hears t first H halted now not_yet_seen = refl
watched_keeps hears t first H halted now (by_steps G es n so_far none) =
    watched_keeps hears t first G false n so_far
watched_keeps hears t first H halted now (by_reads b es n so_far same book known none) =
    watched_keeps hears t first b.history false n so_far
watched_keeps hears t first H halted now (seen b halts before n so_far same book looks) =
    looks.name ∙ watched_keeps hears t first b.history false before so_far

-- the looks at the run of the network that a document describes
pub watched_by : {E : Type 0} (hears : E → Document → Book → E → Type 0) (t u : Tables) (first : StreamWatcher E)
    (H : List Event) (halted : Bool) (now : StreamWatcher E) → t ≡ u
    → Watched t KnowsEnded (LooksAt hears) first H halted now → Watched u KnowsEnded (LooksAt hears) first H halted now
watched_by hears t u first H halted now same watched =
    subst (λ (x : Tables). Watched x KnowsEnded (LooksAt hears) first H halted now) same watched

module _ (t : Tables) {S N : Type 0} (gives : S → ℕ → Result (Option ℤ) SourceFault → S → Type 0)
    (looks : S → ℕ → S → Type 0) (name : S → N)
    (same : (before : S) (c : ℕ) (answer : Result (Option ℤ) SourceFault) (now : S) → gives before c answer now
    → name now ≡ name before)
    (same_by_look : (before : S) (c : ℕ) (now : S) → looks before c now → name now ≡ name before) (first : S) where
  pub fed_keeps : (H : List Event) (failed : Option (ℕ × SourceFault)) (now : S) → Fed t gives looks first H failed now
      → name now ≡ name first
  fed_keeps H failed now at_first = refl
  fed_keeps H failed now (by_others G e f n fed other) = fed_keeps G f n fed
  fed_keeps H failed now (by_look G c before n fed looked) =
      same_by_look before c n looked ∙ fed_keeps G None before fed
  fed_keeps H failed now (by_item G c v before n fed may gave) =
      same before c (Ok (Some v)) n gave ∙ fed_keeps G None before fed
  fed_keeps H failed now (by_end G c before n fed may gave) = same before c (Ok None) n gave ∙ fed_keeps G None before fed
  fed_keeps H failed now (by_fault G c fault before n fed may gave) =
      same before c (Err fault) n gave ∙ fed_keeps G None before fed
  fed_keeps H failed now (by_no_memory G c given before n fed may gave) =
      same before c (Ok given) n gave ∙ fed_keeps G None before fed

module _ {K N : Type 0} (takes : K → ℕ → ℤ → Result (Unit {0}) SinkFault → K → Type 0)
    (flushes : K → ℕ → Result (Unit {0}) SinkFault → K → Type 0) (wanted : Option ℕ) (name : K → N)
    (same_by_take : (before : K) (c : ℕ) (v : ℤ) (answer : Result (Unit {0}) SinkFault) (now : K)
    → takes before c v answer now → name now ≡ name before)
    (same_by_flush : (before : K) (c : ℕ) (answer : Result (Unit {0}) SinkFault) (now : K)
    → flushes before c answer now → name now ≡ name before) (first : K) where
  pub served_keeps : (H : List Event) (failed : Option (ℕ × SinkFault)) (now : K)
      → Served takes flushes wanted first H failed now → name now ≡ name first
  served_keeps H failed now none_yet = refl
  served_keeps H failed now (meanwhile G e f n served other) = served_keeps G f n served
  served_keeps H failed now (took G c v before n served wants taken) =
      same_by_take before c v (Ok tt) n taken ∙ served_keeps G None before served
  served_keeps H failed now (took_not G c v fault before n served wants taken) =
      same_by_take before c v (Err fault) n taken ∙ served_keeps G None before served
  served_keeps H failed now (flushed G c before n served flushes) =
      same_by_flush before c (Ok tt) n flushes ∙ served_keeps G None before served
  served_keeps H failed now (flushed_not G c fault before n served flushes) =
      same_by_flush before c (Err fault) n flushes ∙ served_keeps G None before served
  served_keeps H failed now (took_in_vain G c v before n served wants taken) =
      same_by_take before c v (Ok tt) n taken ∙ served_keeps G None before served
  served_keeps H failed now (left G c n served) = served_keeps G _ n served
  served_keeps H failed now (left_not G c n served) = served_keeps G _ n served
  served_keeps H failed now (had_enough G c before n served given flushes) =
      same_by_flush before c (Ok tt) n flushes ∙ served_keeps G None before served
  served_keeps H failed now (had_enough_not G c before n served given flushes) =
      same_by_flush before c (Ok tt) n flushes ∙ served_keeps G None before served

  pub handed_keeps : (sinks : List ℕ) (lost : List Lost) (now : K) → HandedOn flushes first sinks lost now
      → name now ≡ name first
  handed_keeps sinks lost now command.none_yet = refl
  handed_keeps sinks lost now (command.one_more before_it c listed answer before n handed flushes) =
      same_by_flush before c answer n flushes ∙ handed_keeps before_it listed before handed

-- each call keeps them
pub inputs_same : {I F : Type 0} (remaining : I → Option (List ℕ)) (in_file : F → Option (List ℕ))
    (before : SourceInputs I F)
    (c : ℕ) (answer : Result (Option ℤ) SourceFault) (after : SourceInputs I F)
    → InputsGive remaining in_file before c answer after → after.standard.ghost_name ≡ before.standard.ghost_name
inputs_same remaining in_file before c answer after (by_input i input read found at gives each ghost lent) =
    ghost
inputs_same remaining in_file before c answer after (by_none found is same) =
    ap (λ (x : SourceInputs _ _). x.standard.ghost_name) same

pub looks_same : {I F : Type 0} (remaining : I → Option (List ℕ)) (in_file : F → Option (List ℕ))
    (before : SourceInputs I F)
    (c : ℕ) (after : SourceInputs I F) → InputsLook remaining in_file before c after
    → after.standard.ghost_name ≡ before.standard.ghost_name
looks_same remaining in_file before c after (at_input i input read found at looks each ghost lent) = ghost
looks_same remaining in_file before c after (at_none found same) =
    ap (λ (x : SourceInputs _ _). x.standard.ghost_name) same

pub outputs_same : {O G : Type 0} (Does : OutputRel O G) (before : SinkOutputs O G) (c : ℕ)
    (answer : Result (Unit {0}) SinkFault) (after : SinkOutputs O G) → OutputsDo Does before c answer after
    → after.standard.ghost_name ≡ before.standard.ghost_name
outputs_same Does before c answer after
    (outputs.by_output i output written found at channel format only does each ghost lent) =
    ghost
outputs_same Does before c answer after (outputs.by_none found is same) =
    ap (λ (x : SinkOutputs _ _). x.standard.ghost_name) same

-- the same run, by other names of its limits and its network
pub ran_by : {I F O G : Type 0} (known : KnownOfDevices I F O G) (limits others : Limits) (t tables : Tables)
    (sinks : List ℕ)
    (inputs read : SourceInputs I F) (outputs written : SinkOutputs O G) (ending : StreamEnding) (b : Book)
    (lost : List Lost)
    → limits ≡ others → t ≡ tables → RanOver known limits t sinks inputs read outputs written ending b lost
    → RanOver known others tables sinks inputs read outputs written ending b lost
ran_by known limits others t tables sinks inputs read outputs written ending b lost same same_tables ran =
    subst (λ (l : Limits). RanOver known l tables sinks inputs read outputs written ending b lost) same
    (subst (λ (u : Tables). RanOver known limits u sinks inputs read outputs written ending b lost) same_tables ran)
