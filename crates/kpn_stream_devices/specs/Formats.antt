-- How items are written in the inputs and outputs of a stream.
use Rattle.std.specs.Prelude.{◌≡◌, ⊤, ◌<◌, unsigned_abs, ℕ, nat_eq, ◌^◌, ◌-◌, ℤ, pos, neg_ℤ, ◌≤ℤ◌, ◌≤◌, ◌++◌, ◌+◌, ◌*◌, ◌%◌, ◌⊎◌, List, [], take, drop, Option, Some, None, codes, if◌then◌else◌}
use Rattle.std.specs.Int.{w16, w32, w64, int_min, int_max, to_le_bytes}
use Rattle.byteorder.specs.Endian.{little_number, little_bytes, low_bytes, twos_complement}
use Rattle.kpn_text_items.specs.ItemFile.{item_line}
use Rattle.kpn_text_items.specs.ItemLine.{SpellsItem}
use Rattle.kpn_stream_devices.specs.Floats.{float_item, float_bits}
use Rattle.kpn_stream_devices.specs.declared.formats.SampleFormat.{SampleFormat}
use Rattle.kpn_stream_devices.specs.declared.formats.SampleFormat.TheVariants.{U8, S8, S16, S24, S32, S64, F32}
use Rattle.kpn_stream_devices.specs.declared.formats.ItemFormat.{ItemFormat}
use Rattle.kpn_stream_devices.specs.declared.formats.ItemFormat.TheVariants.{Lines, Samples, Wav}
use Rattle.kpn_stream_devices.specs.declared.formats.WavFormat.{WavFormat}
use Rattle.kpn_stream_devices.specs.declared.formats.WavFormat.TheVariants.{Usual, Bits16, Bits24}
use Rattle.kpn_stream_devices.specs.declared.formats.OutputFormat.{OutputFormat}

-- ---- samples

-- how many bytes a sample has
abbrev pub sample_width : SampleFormat → ℕ
sample_width U8 = 1
sample_width S8 = 1
sample_width S16 = 2
sample_width S24 = 3
sample_width S32 = 4
sample_width S64 = 8
sample_width (F32 power) = 4

-- the number that the first `width` bytes write: two's complement, the lowest byte first
abbrev pub signed_value : (width : ℕ) → List ℕ → ℤ
signed_value width bytes = twos_complement width (little_number width bytes)

-- the item that the first bytes write, if they write one
abbrev pub sample_value : SampleFormat → List ℕ → Option ℤ
sample_value U8 bytes = Some (pos (little_number 1 bytes))
sample_value S8 bytes = Some (signed_value 1 bytes)
sample_value S16 bytes = Some (signed_value 2 bytes)
sample_value S24 bytes = Some (signed_value 3 bytes)
sample_value S32 bytes = Some (signed_value 4 bytes)
sample_value S64 bytes = Some (signed_value 8 bytes)
sample_value (F32 power) bytes = float_item power (little_number 4 bytes)

-- the lowest `width` bytes of a number, the lowest first
abbrev pub number_bytes : (width : ℕ) → ℤ → List ℕ
number_bytes width item = little_bytes width (low_bytes w64 width item)

-- the sample that writes an item
abbrev pub sample_bytes : SampleFormat → ℤ → List ℕ
sample_bytes U8 item = number_bytes 1 item
sample_bytes S8 item = number_bytes 1 item
sample_bytes S16 item = number_bytes 2 item
sample_bytes S24 item = number_bytes 3 item
sample_bytes S32 item = number_bytes 4 item
sample_bytes S64 item = number_bytes 8 item
sample_bytes (F32 power) item = number_bytes 4 (pos (float_bits power item))

-- the least and the greatest item of a sample: from 2^63 - 2^38 on the nearest float is 2^63, which no item is
abbrev pub least_sample : SampleFormat → ℤ
least_sample U8 = pos 0
least_sample S8 = neg_ℤ (pos (2 ^ 7))
least_sample S16 = neg_ℤ (pos (2 ^ 15))
least_sample S24 = neg_ℤ (pos (2 ^ 23))
least_sample S32 = neg_ℤ (pos (2 ^ 31))
least_sample S64 = neg_ℤ (pos (2 ^ 63))
least_sample (F32 power) = neg_ℤ (pos (2 ^ 63))

abbrev pub greatest_sample : SampleFormat → ℤ
greatest_sample U8 = pos (2 ^ 8 - 1)
greatest_sample S8 = pos (2 ^ 7 - 1)
greatest_sample S16 = pos (2 ^ 15 - 1)
greatest_sample S24 = pos (2 ^ 23 - 1)
greatest_sample S32 = pos (2 ^ 31 - 1)
greatest_sample S64 = pos (2 ^ 63 - 1)
greatest_sample (F32 power) = pos (2 ^ 63 - 2 ^ 38 - 1)

-- ---- formats

-- the samples of a WAV file that is written
abbrev pub wav_sample : WavFormat → SampleFormat
wav_sample Usual = S16
wav_sample Bits16 = S16
wav_sample Bits24 = S24

abbrev pub least_item : ItemFormat → ℤ
least_item Lines = neg_ℤ (pos (2 ^ 63))
least_item (Samples sample) = least_sample sample
least_item (Wav wav) = least_sample (wav_sample wav)

abbrev pub greatest_item : ItemFormat → ℤ
greatest_item Lines = pos (2 ^ 63 - 1)
greatest_item (Samples sample) = greatest_sample sample
greatest_item (Wav wav) = greatest_sample (wav_sample wav)

-- a format has a text for an item
abbrev pub FormatHolds : ItemFormat → ℤ → Type 0
FormatHolds format item = (least_item format ≤ℤ item) × (item ≤ℤ greatest_item format)

-- the text of an item
abbrev pub item_bytes : ItemFormat → ℤ → List ℕ
item_bytes Lines item = item_line item
item_bytes (Samples sample) item = sample_bytes sample item
item_bytes (Wav wav) item = sample_bytes (wav_sample wav) item

-- the nearest item for which a format has a text
abbrev pub nearest_item : ItemFormat → ℤ → ℤ
nearest_item format item = int_max (least_item format) (int_min item (greatest_item format))

-- a sample is not rounded: a float has 24 places
abbrev pub IsExact : SampleFormat → ℤ → Type 0
IsExact (F32 power) item = unsigned_abs item < 2 ^ 24
IsExact sample item = ⊤

-- ---- outputs

-- the item that an output writes for an item: the nearest that fits, if it clips
abbrev pub written_item : OutputFormat → ℤ → ℤ
written_item format item = if format.clips then nearest_item format.items item else item

-- an output has a text for an item
abbrev pub HasText : OutputFormat → ℤ → Type 0
HasText format item = FormatHolds format.items (written_item format item)

-- the text that it writes for the item
abbrev pub text_of : OutputFormat → ℤ → List ℕ
text_of format item = item_bytes format.items (written_item format item)

-- ---- the head of an output

-- the size of samples of which nobody knows how many follow
abbrev pub unknown : ℕ
unknown = 2147479552

-- The head of this many channels of whole samples. A second has `rate` of each, which tells how many bytes it has.
abbrev pub wav_head : SampleFormat → (rate channels : ℕ) → List ℕ
wav_head sample rate channels =
    let frame = channels * sample_width sample in
    (codes "RIFF" ++ to_le_bytes w32 (36 + unknown) ++ codes "WAVEfmt " ++ to_le_bytes w32 16 ++ to_le_bytes w16 1)
    ++ to_le_bytes w16 channels ++ to_le_bytes w32 rate ++ to_le_bytes w32 (rate * frame % 2 ^ 32)
    ++ to_le_bytes w16 (frame % 2 ^ 16) ++ to_le_bytes w16 (8 * sample_width sample)
    ++ (codes "data" ++ to_le_bytes w32 unknown)

-- what an output begins with
abbrev pub head_bytes : ItemFormat → (rate channels : ℕ) → List ℕ
head_bytes Lines rate channels = []
head_bytes (Samples sample) rate channels = []
head_bytes (Wav wav) rate channels = wav_head (wav_sample wav) rate channels

-- ---- words

-- the word for a format without a number after it
abbrev pub format_name : ItemFormat → Option (List ℕ)
format_name Lines = Some (codes "lines")
format_name (Samples U8) = Some (codes "u8")
format_name (Samples S8) = Some (codes "s8")
format_name (Samples S16) = Some (codes "s16le")
format_name (Samples S24) = Some (codes "s24le")
format_name (Samples S32) = Some (codes "s32le")
format_name (Samples S64) = Some (codes "s64le")
format_name (Samples (F32 power)) = if nat_eq power 15 then Some (codes "f32le") else None
format_name (Wav Usual) = Some (codes "wav")
format_name (Wav Bits16) = Some (codes "wav16")
format_name (Wav Bits24) = Some (codes "wav24")

-- `f32le:` and a power of two
pub record NamesPower (word : List ℕ) (power : ℕ) : Type 0 where
  pub begins : take 6 word ≡ codes "f32le:"
  pub spells : SpellsItem (drop 6 word) (pos power)
  pub within : power ≤ 62

-- a word names a format
abbrev pub NamesFormat : (word : List ℕ) → ItemFormat → Type 0
NamesFormat word format =
    (format_name format ≡ Some word)
    ⊎ ((power : ℕ) × NamesPower word power × (format ≡ Samples (F32 power)))

-- this word names no format
abbrev pub IsNoFormat : (name : List ℕ) → Type 0
IsNoFormat name = (format : ItemFormat) → NamesFormat name format → ⊥
