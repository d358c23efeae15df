-- The bytes of an input that were read and not yet used, and what an input gives.
use Rattle.std.specs.Prelude.{◌≡◌, ℕ, zero, suc, ◌+◌, ◌<◌, ◌≤◌, ◌%◌, ◌==◌, nat_eq, nat_lt, ◌&&◌, ◌||◌, if◌then◌else◌, get_or, take, drop, position, ◌^◌, ◌-◌, min, ℤ, Bool, false, true, List, [], ◌∷◌, length, Option, Some, None, Result, Ok, Err, ⊤}
use Rattle.std.specs.Str.Lines.{lines}
use Rattle.std.specs.Io.KnownBytes.{prepend_known, IsAtEnd}
use Rattle.kpn_text_items.specs.ItemLine.{SpellsItem}
use Rattle.kpn_stream_devices.specs.declared.formats.SampleFormat.{SampleFormat}
use Rattle.kpn_stream_devices.specs.declared.formats.ItemFormat.{ItemFormat}
use Rattle.kpn_stream_devices.specs.declared.formats.ItemFormat.TheVariants.{Lines, Samples}
use Rattle.kpn_stream_devices.specs.declared.formats.ItemFormat.TheVariants as format
use Rattle.kpn_stream_devices.specs.declared.formats.WavFormat.{WavFormat}
use Rattle.kpn_stream_devices.specs.declared.window.Told.{Told}
use Rattle.kpn_stream_devices.specs.declared.window.Told.TheVariants.{One, Other}
use Rattle.kpn_stream_devices.specs.declared.head.Wav.{Wav}
use Rattle.kpn_stream_devices.specs.declared.head.Head.{Head}
use Rattle.kpn_stream_devices.specs.declared.head.Head.TheVariants.{Open, Bad, Whole}
use Rattle.kpn_stream.specs.declared.faults.SourceFault.{SourceFault}
use Rattle.kpn_stream.specs.declared.faults.SourceFault.TheVariants.{Read, BadItem, CutSample, BadHead, NoMemory}
use Rattle.kpn_stream_devices.specs.Formats.{sample_width, sample_value}
use Rattle.kpn_stream_devices.specs.Head.{head_at, least_unknown}

-- the bytes that were read and not used, whether the input has ended after them, how many lines or samples were used,
-- and what is left of a WAV file of which samples were used
pub record Window : Type 0 where
  pub unused : List ℕ
  pub is_over : Bool
  pub used : ℕ
  pub wav : Option Wav

-- nothing was read yet
abbrev pub fresh : Window
fresh = record { unused = []; is_over = false; used = 0; wav = None }

-- one more was used; the count stops at the largest number
abbrev pub one_after : ℕ → ℕ
one_after n = min (n + 1) (2 ^ 64 - 1)

-- this many were used, from the beginning on
abbrev pub used_after : ℕ → ℕ
used_after zero = 0
used_after (suc n) = one_after (used_after n)

-- a line or a sample of this many bytes was used, and this is left of a WAV file
abbrev pub with_one : (count : ℕ) → Option Wav → Window → Window
with_one count wav w = record w { unused = drop count w.unused; used = one_after w.used; wav = wav }

-- a line spells no item
abbrev pub SpellsNone : List ℕ → Type 0
SpellsNone line = (item : ℤ) → SpellsItem line item → ⊥

-- what an input has left: what was read and not used, and what its device has left
abbrev pub left_of : Window → (device : Option (List ℕ)) → Option (List ℕ)
left_of w device = prepend_known w.unused device

-- ---- what an input gives that has these bytes left, and those afterwards

-- the first line spells the item, and the lines after it are left; or nothing is left; or there is a first line, and
-- it spells none
abbrev pub LineGives : (before after : List ℕ) → Result (Option ℤ) SourceFault → Type 0
LineGives before after (Ok (Some item)) = (line : List ℕ) × (lines before ≡ line ∷ lines after) × SpellsItem line item
LineGives before after (Ok None) = before ≡ []
LineGives before after (Err (BadItem number)) =
    (line : List ℕ) × (more : List (List ℕ)) × (lines before ≡ line ∷ more) × SpellsNone line
LineGives before after (Err CutSample) = ⊥
LineGives before after (Err (BadHead at)) = ⊥
LineGives before after (Err Read) = ⊤
LineGives before after (Err NoMemory) = ⊤

-- the first bytes write the item, and those after the sample are left; or nothing is left; or the first sample writes
-- none; or too few bytes
abbrev pub SampleGives : SampleFormat → (before after : List ℕ) → Result (Option ℤ) SourceFault → Type 0
SampleGives sample before after (Ok (Some item)) =
    (sample_width sample ≤ length before) × (sample_value sample before ≡ Some item)
    × (after ≡ drop (sample_width sample) before)
SampleGives sample before after (Ok None) = before ≡ []
SampleGives sample before after (Err (BadItem number)) =
    (sample_width sample ≤ length before) × (sample_value sample before ≡ None)
SampleGives sample before after (Err CutSample) = (0 < length before) × (length before < sample_width sample)
SampleGives sample before after (Err (BadHead at)) = ⊥
SampleGives sample before after (Err Read) = ⊤
SampleGives sample before after (Err NoMemory) = ⊤

-- the samples after a head
abbrev pub data_of : Head → List ℕ → List ℕ
data_of (Whole length wav) bytes = take wav.left (drop length bytes)
data_of head bytes = []

-- those that are left are of this kind
abbrev pub HasSample : SampleFormat → Option Wav → Type 0
HasSample sample (Some wav) = wav.sample ≡ sample
HasSample sample None = ⊥

-- they go on after an item
abbrev pub SamplesGoOn : SampleFormat → Result (Option ℤ) SourceFault → (after : Option Wav) → Type 0
SamplesGoOn sample (Ok (Some item)) after = HasSample sample after
SamplesGoOn sample (Ok None) after = ⊤
SamplesGoOn sample (Err fault) after = ⊤

-- the head is wrong from this byte on, and that is told, unless the device or memory fails
abbrev pub TellsBad : (at : ℕ) → Result (Option ℤ) SourceFault → Type 0
TellsBad at (Ok answer) = ⊥
TellsBad at (Err (BadItem number)) = ⊥
TellsBad at (Err CutSample) = ⊥
TellsBad at (Err (BadHead byte)) = byte ≡ at
TellsBad at (Err Read) = ⊤
TellsBad at (Err NoMemory) = ⊤

-- this is what is left after the last sample: nothing of what the head counts; or, if it counts nothing, no byte, or a
-- byte 0 that fills up an odd number of bytes
abbrev pub fills_up : Wav → List ℕ → Bool
fills_up wav bytes =
    nat_lt 1 (sample_width wav.sample) && (nat_eq (wav.left % 2) 0
    && (nat_eq (length bytes) 1 && nat_eq (get_or bytes 0 0) 0))

abbrev pub ends_samples : Wav → List ℕ → Bool
ends_samples wav bytes =
    if nat_eq wav.left 0 then true
    else if nat_lt wav.left least_unknown then false else (nat_eq (length bytes) 0 || fills_up wav bytes)

-- samples are given as in other inputs, up to their end; before it the input is cut where too few bytes are left
abbrev pub DataGives : Wav → (before after : List ℕ) → Result (Option ℤ) SourceFault → Type 0
DataGives wav before after (Ok (Some item)) = SampleGives wav.sample before after (Ok (Some item))
DataGives wav before after (Ok None) = ends_samples wav before ≡ true
DataGives wav before after (Err (BadItem number)) = SampleGives wav.sample before after (Err (BadItem number))
DataGives wav before after (Err CutSample) =
    (length before < sample_width wav.sample) × (ends_samples wav before ≡ false)
DataGives wav before after (Err (BadHead at)) = ⊥
DataGives wav before after (Err Read) = ⊤
DataGives wav before after (Err NoMemory) = ⊤

-- The samples after the head are given as if nothing else were there, as many as it counts, and an input that ends
-- before is cut. Of a head that is wrong, or that the input ends within, the place is told.
abbrev pub WavGives : Head → (before : List ℕ) (after : Option Wav) (rest : List ℕ) → Result (Option ℤ) SourceFault
    → Type 0
WavGives Open before after rest answer = TellsBad (length before) answer
WavGives (Bad at) before after rest answer = TellsBad at answer
WavGives (Whole count wav) before after rest answer =
    DataGives wav (data_of (Whole count wav) before) (data_of (head_at after rest) rest) answer
    × SamplesGoOn wav.sample answer after

abbrev pub FormatGives : ItemFormat → (wav : Option Wav) (before : List ℕ) (after : Option Wav) (rest : List ℕ)
    → Result (Option ℤ) SourceFault → Type 0
FormatGives Lines wav before after rest answer = LineGives before rest answer
FormatGives (Samples sample) wav before after rest answer = SampleGives sample before rest answer
FormatGives (format.Wav written) wav before after rest answer = WavGives (head_at wav before) before after rest answer

-- of an input whose bytes are known
abbrev pub IfKnown : (before after : Option (List ℕ)) → (List ℕ → List ℕ → Type 0) → Type 0
IfKnown None after P = ⊤
IfKnown (Some before) None P = ⊥
IfKnown (Some before) (Some after) P = P before after

-- what an input gives, by what its window and its device were before, and are afterwards
abbrev pub WindowGives : ItemFormat → (before : Window) (device : Option (List ℕ)) → Result (Option ℤ) SourceFault
    → (after : Window) (read : Option (List ℕ)) → Type 0
WindowGives format before device answer after read =
    IfKnown (left_of before device) (left_of after read)
    (λ left rest. FormatGives format before.wav left after.wav rest answer)

-- How many were used before an answer and are used then: an item is one more, and a line or a sample that has none is
-- told by the number that it has, counted from 1.
abbrev pub CountsUsed : Result (Option ℤ) SourceFault → (used now : ℕ) → Type 0
CountsUsed (Ok (Some item)) used now = now ≡ one_after used
CountsUsed (Err (BadItem number)) used now = number ≡ one_after used
CountsUsed answer used now = now ≡ used

-- if the input is over, its device has nothing left
abbrev pub IsEndKnown : Window → (device : Option (List ℕ)) → Type 0
IsEndKnown w device = w.is_over ≡ true → IsAtEnd device

-- ---- when an input waits for its device

-- the unused bytes are too few to tell: the input may go on after them, and they have neither a whole line nor enough
-- of one that spells no item; nor have they a whole sample
abbrev pub LineNeedsMore : Window → Type 0
LineNeedsMore w =
    (w.is_over ≡ false) × (length w.unused < 22) × (position (λ byte. byte == 10) w.unused ≡ None)

abbrev pub SampleNeedsMore : SampleFormat → Window → Type 0
SampleNeedsMore sample w = (w.is_over ≡ false) × (length w.unused < sample_width sample)

-- nor the whole head of a WAV file and a sample after it
abbrev pub HeadNeedsMore : Head → List ℕ → Type 0
HeadNeedsMore Open unused = ⊤
HeadNeedsMore (Bad at) unused = ⊥
HeadNeedsMore (Whole count wav) unused =
    (length (drop count unused) < sample_width wav.sample) × (length (drop count unused) < wav.left)

abbrev pub WavNeedsMore : Window → Type 0
WavNeedsMore w = (w.is_over ≡ false) × HeadNeedsMore (head_at w.wav w.unused) w.unused

abbrev pub NeedsMore : ItemFormat → Window → Type 0
NeedsMore Lines w = LineNeedsMore w
NeedsMore (Samples sample) w = SampleNeedsMore sample w
NeedsMore (format.Wav written) w = WavNeedsMore w

-- ---- what the unused bytes alone tell

-- an answer that holds whatever the device has left
pub record WindowTells (format : ItemFormat) (before : Window) (answer : Result (Option ℤ) SourceFault) (after : Window)
    : Type 0 where
  pub counted : CountsUsed answer before.used after.used
  pub given : (device : Option (List ℕ)) → IsEndKnown before device
      → IfKnown (left_of before device) (left_of after device)
      (λ left rest. FormatGives format before.wav left after.wav rest answer)

-- the answer of a line or a sample with this number, which spells this item, or none
abbrev pub answer_of : Option ℤ → (number : ℕ) → Result (Option ℤ) SourceFault
answer_of (Some item) number = Ok (Some item)
answer_of None number = Err (BadItem number)

-- the answer that was told, and the window after it
abbrev pub IsRightOf : ItemFormat → Window → Told → Type 0
IsRightOf format w (One item count wav) =
    (count ≤ length w.unused) × WindowTells format w (answer_of item (one_after w.used)) (with_one count wav w)
IsRightOf format w (Other answer) = WindowTells format w answer w

-- the same of a WAV file
abbrev pub IsRightOfWav : Window → Told → Type 0
IsRightOfWav w told = (written : WavFormat) → IsRightOf (format.Wav written) w told

-- the answer where no more bytes come than these, which are too few for a sample
abbrev pub end_told : Wav → List ℕ → Result (Option ℤ) SourceFault
end_told wav bytes = if ends_samples wav bytes then Ok None else Err CutSample
