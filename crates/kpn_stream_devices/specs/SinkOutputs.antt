-- The outputs of a stream, as the devices of its sinks.
use Rattle.std.specs.Prelude.{◌≡◌, ℕ, ◌<◌, nat_eq, ℤ, List, [], length, position, get_or, slice_set, Option, Some, None, Result, Ok, Err, ⊤}
use Rattle.std.specs.Io.KnownBytes.{append_known, Appends, Keeps}
use Rattle.kpn_stream_devices.specs.declared.formats.OutputFormat.{OutputFormat}
use Rattle.kpn_stream.specs.declared.faults.SinkFault.{SinkFault}
use Rattle.kpn_stream.specs.declared.faults.SinkFault.TheVariants.{Gone, NoMemory, NoSample, Write}
use Rattle.kpn_stream_devices.specs.declared.outputs.SinkOutput.{SinkOutput}
use Rattle.kpn_stream_devices.specs.declared.outputs.SinkOutputs.{SinkOutputs}
use Rattle.kpn_stream_devices.specs.Formats.{HasText, text_of}

-- what a device holds: the file, or else standard output
abbrev pub device_holds : {O G : Type 0} → (holds : O → Option (List ℕ)) (holds_in : G → Option (List ℕ))
    → (standard : O) → (file : Option G) → Option (List ℕ)
device_holds holds holds_in standard None = holds standard
device_holds holds holds_in standard (Some file) = holds_in file

-- what was put to an output: what its device holds, and what the device has not got yet
abbrev pub was_put : {O G : Type 0} → (holds : O → Option (List ℕ)) (holds_in : G → Option (List ℕ))
    → (standard : O) → SinkOutput G → Option (List ℕ)
was_put holds holds_in standard output =
    append_known (device_holds holds holds_in standard output.file) output.bytes.items

-- What an output does with an item: it takes the item's text; or the format has none, or there is no memory for it, and
-- nothing was taken; or nobody knows what went out.
abbrev pub TakesItem : OutputFormat → (item : ℤ) → Result (Unit {0}) SinkFault → (before after : Option (List ℕ))
    → Type 0
TakesItem format item (Ok done) before after = HasText format item × Appends before after (text_of format item)
TakesItem format item (Err (NoSample other)) before after =
    (other ≡ item) × (¬ HasText format item) × Keeps before after
TakesItem format item (Err NoMemory) before after = HasText format item × Keeps before after
TakesItem format item (Err Gone) before after = ⊤
TakesItem format item (Err Write) before after = ⊤

-- an output that has taken an item keeps few bytes, so that it takes bounded memory
abbrev pub KeepsFew : Result (Unit {0}) SinkFault → (kept : List ℕ) → Type 0
KeepsFew (Ok done) kept = length kept < 8192
KeepsFew (Err fault) kept = ⊤

-- a fault of a device, and not of an item or of memory
abbrev pub IsOfDevice : SinkFault → Type 0
IsOfDevice (NoSample item) = ⊥
IsOfDevice NoMemory = ⊥
IsOfDevice Gone = ⊤
IsOfDevice Write = ⊤

-- What an output does when it hands on what it kept, and keeps nothing then: the device gets all of it; or nobody knows
-- what went out.
abbrev pub HandsOn : Result (Unit {0}) SinkFault → (kept : List ℕ) (before after : Option (List ℕ)) → Type 0
HandsOn (Ok done) kept before after = (kept ≡ []) × Keeps before after
HandsOn (Err fault) kept before after = (kept ≡ []) × IsOfDevice fault

-- only the device of this output is written: standard output stays as it was beside a file
abbrev pub WritesOnly : {O G : Type 0} → (standard written : O) → (file after : Option G) → Type 0
WritesOnly standard written None None = ⊤
WritesOnly standard written (Some file) (Some after) = written ≡ standard
WritesOnly standard written file after = ⊥

-- A call for a sink, which has this output. Given are standard output and the output, each as it was and as it is
-- afterwards.
abbrev pub OutputRel : (O G : Type 0) → Type 1
OutputRel O G = (standard : O) → SinkOutput G → (written : O) → SinkOutput G → Type 0

-- which output is that of a sink: the first for its channel
abbrev pub output_of : {G : Type 0} → List (SinkOutput G) → (sink : ℕ) → Option ℕ
output_of outputs sink = position (λ output. nat_eq output.channel sink) outputs

-- What the outputs do for a sink. It has an output, and the others stay as they were; or it has none, and nothing
-- changes.
pub data OutputsDo {O G : Type 0} (Does : OutputRel O G) (before : SinkOutputs O G)
    (sink : ℕ) (answer : Result (Unit {0}) SinkFault) (after : SinkOutputs O G) : Type 0 where
  by_output : (i : ℕ) (output written : SinkOutput G) → output_of before.each.now.items sink ≡ Some i →
      get_or before.each.now.items i output ≡ output → written.channel ≡ output.channel →
      written.format ≡ output.format →
      WritesOnly before.standard.now after.standard.now output.file written.file →
      Does before.standard.now output after.standard.now written →
      after.each.now.items ≡ slice_set before.each.now.items i written →
      after.standard.ghost_name ≡ before.standard.ghost_name → after.each.ghost_name ≡ before.each.ghost_name →
      OutputsDo Does before sink answer after
  by_none : output_of before.each.now.items sink ≡ None → answer ≡ Ok tt → after ≡ before →
      OutputsDo Does before sink answer after

module _ {O G : Type 0} (holds : O → Option (List ℕ)) (holds_in : G → Option (List ℕ)) where
  -- an output takes an item
  abbrev pub Takes : ℤ → Result (Unit {0}) SinkFault → OutputRel O G
  Takes item answer standard output written after =
      TakesItem output.format item answer (was_put holds holds_in standard output) (was_put holds holds_in written
      after) × KeepsFew answer after.bytes.items

  -- an output hands on what it kept
  abbrev pub Flushes : Result (Unit {0}) SinkFault → OutputRel O G
  Flushes answer standard output written after =
      HandsOn answer after.bytes.items (was_put holds holds_in standard output) (was_put holds holds_in written after)

  -- the outputs take an item
  abbrev pub OutputsTake : SinkOutputs O G → ℕ → ℤ → Result (Unit {0}) SinkFault → SinkOutputs O G → Type 0
  OutputsTake before sink item answer after = OutputsDo (Takes item answer) before sink answer after

  -- the outputs hand on what one kept
  abbrev pub OutputsFlush : SinkOutputs O G → ℕ → Result (Unit {0}) SinkFault → SinkOutputs O G → Type 0
  OutputsFlush before sink answer after = OutputsDo (Flushes answer) before sink answer after
