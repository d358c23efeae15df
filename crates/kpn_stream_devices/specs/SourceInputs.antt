-- The inputs of a stream, as the devices of its sources.
use Rattle.std.specs.Prelude.{◌≡◌, ◌⊎◌, ◌≤◌, ◌++◌, ℕ, nat_eq, ℤ, List, length, position, get_or, slice_set, false, Option, Some, None, Result, Ok, Err, ⊤}
use Rattle.kpn_stream_devices.specs.declared.formats.ItemFormat.{ItemFormat}
use Rattle.kpn_stream.specs.declared.faults.SourceFault.{SourceFault}
use Rattle.kpn_stream.specs.declared.faults.SourceFault.TheVariants as source_fault
use Rattle.kpn_stream_devices.specs.declared.inputs.Failed.{Failed}
use Rattle.kpn_stream_devices.specs.declared.inputs.Failed.TheVariants as look_fault
use Rattle.kpn_stream_devices.specs.declared.inputs.SourceInput.{SourceInput}
use Rattle.kpn_stream_devices.specs.declared.inputs.SourceInputs.{SourceInputs}
use Rattle.kpn_stream_devices.specs.Window.{Window, WindowGives, CountsUsed, IfKnown, IsEndKnown, NeedsMore, WindowTells, left_of}
use Rattle.std.specs.Io.KnownBytes.{Keeps}

-- what a device has left: the file, or else standard input
abbrev pub device_left : {I F : Type 0} → (left : I → Option (List ℕ)) (left_in : F → Option (List ℕ))
    → (standard : I) → (file : Option F) → Option (List ℕ)
device_left left left_in standard None = left standard
device_left left left_in standard (Some file) = left_in file

-- only the device of this input is read: standard input stays as it was beside a file
abbrev pub ReadsOnly : {I F : Type 0} → (standard read : I) → (file after : Option F) → Type 0
ReadsOnly standard read None None = ⊤
ReadsOnly standard read (Some file) (Some after) = read ≡ standard
ReadsOnly standard read file after = ⊥

-- an input waits for its device: the unused bytes are too few to tell, and no look has met a fault
abbrev pub WaitsForDevice : {F : Type 0} → SourceInput F → Type 0
WaitsForDevice input = NeedsMore input.format input.window × (input.failed ≡ None)

-- the fault that is told
abbrev pub kept_fault : Failed → SourceFault
kept_fault look_fault.Read = source_fault.Read
kept_fault look_fault.NoMemory = source_fault.NoMemory

-- one read asks for this many bytes
abbrev pub most_read : ℕ
most_read = 8192

-- An input has read no more than it needed. After its unused bytes it has seen none; or it has, and without those of
-- the last read they are too few to tell.
abbrev pub IsSparing : ItemFormat → Window → (seen : List ℕ) → Type 0
IsSparing format w seen =
    (seen ≡ w.unused)
    ⊎ ((before last : List ℕ) × (seen ≡ before ++ last) × (length last ≤ most_read)
    × NeedsMore format (record w { unused = before }))

-- What one input gives. Given are standard input and the input, each as it was and as it is afterwards.
pub record InputGives {I F : Type 0} (left : I → Option (List ℕ)) (left_in : F → Option (List ℕ)) (standard : I)
    (input : SourceInput F) (answer : Result (Option ℤ) SourceFault) (read : I) (after : SourceInput F) : Type 0 where
  pub channel : after.channel ≡ input.channel
  pub format : after.format ≡ input.format
  pub only : ReadsOnly standard read input.file after.file
  pub counted : CountsUsed answer input.window.used after.window.used
  -- if the input is known to be over only where its device is at its end, this stays so, and the answer is right
  pub known : IsEndKnown input.window (device_left left left_in standard input.file)
      → IsEndKnown after.window (device_left left left_in read after.file)
  pub given : IsEndKnown input.window (device_left left left_in standard input.file)
      → WindowGives input.format input.window (device_left left left_in standard input.file) answer
      after.window (device_left left left_in read after.file)
  -- the device is asked only while the bytes without those of the last read need more
  pub sparing : IfKnown (left_of input.window (device_left left left_in standard input.file))
      (device_left left left_in read after.file)
      (λ all rest. (seen : List ℕ) × (all ≡ seen ++ rest) × IsSparing input.format input.window seen)
  -- no device is asked if the answer is at hand
  pub at_hand : (WaitsForDevice input → ⊥) → (read ≡ standard) × (after.file ≡ input.file)
  -- a fault that a look has met is never forgotten, and is told unless the bytes before it tell an answer
  pub failed : after.failed ≡ input.failed
  pub told : (failed : Failed) → input.failed ≡ Some failed
      → (answer ≡ Err (kept_fault failed)) ⊎ WindowTells input.format input.window answer after.window

-- which input is that of a source: the first for its channel
abbrev pub input_of : {F : Type 0} → List (SourceInput F) → (source : ℕ) → Option ℕ
input_of inputs source = position (λ input. nat_eq input.channel source) inputs

-- What the inputs give for a source. It has an input, and the others stay as they were; or it has none, and nothing
-- changes.
pub data InputsGive {I F : Type 0} (left : I → Option (List ℕ)) (left_in : F → Option (List ℕ))
    (before : SourceInputs I F)
    (source : ℕ) (answer : Result (Option ℤ) SourceFault) (after : SourceInputs I F) : Type 0 where
  by_input : (i : ℕ) (input read : SourceInput F) → input_of before.each.now.items source ≡ Some i →
      get_or before.each.now.items i input ≡ input →
      InputGives left left_in before.standard.now input answer after.standard.now read →
      after.each.now.items ≡ slice_set before.each.now.items i read →
      after.standard.ghost_name ≡ before.standard.ghost_name →
      after.each.ghost_name ≡ before.each.ghost_name →
      InputsGive left left_in before source answer after
  by_none : input_of before.each.now.items source ≡ None → answer ≡ Ok None → after ≡ before →
      InputsGive left left_in before source answer after

-- the answer of a source is at hand: its input does not wait
abbrev pub IsAtHand : {I F : Type 0} → SourceInputs I F → (source : ℕ) → Type 0
IsAtHand {F = F} inputs source =
    (i : ℕ) (input : SourceInput F) → input_of inputs.each.now.items source ≡ Some i
    → get_or inputs.each.now.items i input ≡ input → WaitsForDevice input → ⊥

-- What a look at an input does: what has come moves from the device to the window, and nothing else happens; or a fault
-- is kept, which the next call tells, and the window stays. If the answer is at hand, no device is looked at, and a
-- kept fault stays.
pub record InputLooks {I F : Type 0} (left : I → Option (List ℕ)) (left_in : F → Option (List ℕ))
    (standard : I) (input : SourceInput F) (read : I) (after : SourceInput F) : Type 0 where
  pub channel : after.channel ≡ input.channel
  pub format : after.format ≡ input.format
  pub only : ReadsOnly standard read input.file after.file
  pub used : after.window.used ≡ input.window.used
  pub wav : after.window.wav ≡ input.window.wav
  pub known : IsEndKnown input.window (device_left left left_in standard input.file)
      → IsEndKnown after.window (device_left left left_in read after.file)
  pub kept : after.failed ≡ None
      → Keeps (left_of input.window (device_left left left_in standard input.file))
      (left_of after.window (device_left left left_in read after.file))
  pub as_before : (failed : Failed) → after.failed ≡ Some failed → after.window ≡ input.window
  pub at_hand : (WaitsForDevice input → ⊥) → (read ≡ standard) × (after ≡ input)

-- What a look at the input of a source does. It has an input, and the others stay as they were; or it has none, and
-- nothing changes.
pub data InputsLook {I F : Type 0} (left : I → Option (List ℕ)) (left_in : F → Option (List ℕ))
    (before : SourceInputs I F)
    (source : ℕ) (after : SourceInputs I F) : Type 0 where
  at_input : (i : ℕ) (input read : SourceInput F) → input_of before.each.now.items source ≡ Some i →
      get_or before.each.now.items i input ≡ input → InputLooks left left_in before.standard.now input
      after.standard.now read → after.each.now.items ≡ slice_set before.each.now.items i read →
      after.standard.ghost_name ≡ before.standard.ghost_name →
      after.each.ghost_name ≡ before.each.ghost_name →
      InputsLook left left_in before source after
  at_none : input_of before.each.now.items source ≡ None → after ≡ before → InputsLook left left_in before source after

-- ---- scaffolding: what looks keep, and what reads do before the bytes tell

-- bytes have moved from the device to the window, and no others
pub record HaveMoved {I F : Type 0} (left : I → Option (List ℕ)) (left_in : F → Option (List ℕ))
    (standard : I) (input : SourceInput F) (read : I) (after : SourceInput F) : Type 0 where
  pub channel : after.channel ≡ input.channel
  pub format : after.format ≡ input.format
  pub only : ReadsOnly standard read input.file after.file
  pub used : after.window.used ≡ input.window.used
  pub wav : after.window.wav ≡ input.window.wav
  pub kept : Keeps (left_of input.window (device_left left left_in standard input.file))
      (left_of after.window (device_left left left_in read after.file))
  pub known : IsEndKnown input.window (device_left left left_in standard input.file)
      → IsEndKnown after.window (device_left left left_in read after.file)
  pub failed : after.failed ≡ input.failed

-- bytes of one read stand after those that were there
abbrev pub HasReadOn : (before after : Window) → Type 0
HasReadOn before after = (last : List ℕ) × (after.unused ≡ before.unused ++ last) × (length last ≤ most_read)

-- so far bytes have moved, no more than were needed, and none if the answer was at hand
pub record IsInputAsked {I F : Type 0} (left : I → Option (List ℕ)) (left_in : F → Option (List ℕ)) (standard : I)
    (input : SourceInput F) (read : I) (after : SourceInput F) : Type 0 where
  pub moved : HaveMoved left left_in standard input read after
  pub sparing : IsSparing input.format input.window after.window.unused
  pub was_open : after.window.is_over ≡ false → input.window.is_over ≡ false
  pub at_hand : (WaitsForDevice input → ⊥) → (read ≡ standard) × (after ≡ input)

-- a read fails, or there is no memory for what it gave; or a look has failed before, and no device is asked
pub record FailsToRead {I F : Type 0} (left : I → Option (List ℕ)) (left_in : F → Option (List ℕ))
    (standard : I) (input : SourceInput F) (read : I) (after : SourceInput F) (fault : SourceFault) : Type 0 where
  pub channel : after.channel ≡ input.channel
  pub format : after.format ≡ input.format
  pub only : ReadsOnly standard read input.file after.file
  pub counted : CountsUsed (Err fault) input.window.used after.window.used
  pub lost : IfKnown (device_left left left_in standard input.file) (device_left left left_in read after.file)
      (λ before left. (last : List ℕ) × (before ≡ last ++ left) × (length last ≤ most_read))
  pub at_hand : (input.failed ≡ None → ⊥) → (read ≡ standard) × (after ≡ input)
  pub known : IsEndKnown input.window (device_left left left_in standard input.file)
      → IsEndKnown after.window (device_left left left_in read after.file)
  pub given : (format : ItemFormat) → WindowGives format input.window (device_left left left_in standard input.file)
      (Err fault) after.window (device_left left left_in read after.file)
  pub failed : after.failed ≡ input.failed
  pub told : (failed : Failed) → input.failed ≡ Some failed → fault ≡ kept_fault failed
