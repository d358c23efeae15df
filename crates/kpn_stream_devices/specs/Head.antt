-- The head of a WAV file, from which its samples follow: `RIFF`, a size, `WAVE`, and chunks, the last of which is `data`.
-- Before it the chunk `fmt ` says what the samples are: whole numbers of 8, 16 or 24 bits.
use Rattle.std.specs.Prelude.{ℕ, zero, suc, ◌+◌, ◌*◌, ◌^◌, ◌-◌, ◌%◌, nat_eq, nat_lt, nat_le, ◌&&◌, ◌||◌, Bool, true, false, if◌then◌else◌, List, drop, length, codes, Option, Some, None, Result, Ok, Err, ◌≤◌, ⊤}
use Rattle.byteorder.specs.Endian.{little_number}
use Rattle.kpn_stream_devices.specs.declared.formats.SampleFormat.{SampleFormat}
use Rattle.kpn_stream_devices.specs.declared.formats.SampleFormat.TheVariants.{U8, S16, S24}
use Rattle.kpn_stream_devices.specs.declared.head.Wav.{Wav}
use Rattle.kpn_stream_devices.specs.declared.head.Head.{Head}
use Rattle.kpn_stream_devices.specs.declared.head.Head.TheVariants.{Open, Bad, Whole}
use Rattle.kpn_stream_devices.specs.declared.head.Chunk.{Chunk}
use Rattle.kpn_stream_devices.specs.declared.head.Chunk.TheVariants.{Told, Next}
use Rattle.kpn_stream_devices.specs.Formats.{sample_width}

-- a head has at most this many bytes, and this many chunks
abbrev pub most_bytes : ℕ
most_bytes = 1048576

abbrev pub most_chunks : ℕ
most_chunks = 1000

-- from this many bytes of samples on nobody has counted them: there are as many as come
abbrev pub least_unknown : ℕ
least_unknown = 2147475456

-- the number that this many bytes from a place on write
abbrev pub number_at : (width at : ℕ) → List ℕ → ℕ
number_at width at bytes = little_number width (drop at bytes)

-- the name of a chunk, as a number
abbrev pub chunk_name : List ℕ → ℕ
chunk_name name = little_number 4 name

-- ---- what the samples are

-- a long description has the kind of whole numbers in 16 bytes
abbrev pub is_kind : (first last : ℕ) → Bool
is_kind first last = nat_eq first 4503599627370497 && nat_eq last 8186198323179290752

abbrev pub is_extended : List ℕ → (at size : ℕ) → Bool
is_extended bytes at size =
    if nat_lt size 40 then false else is_kind (number_at 8 (at + 24) bytes) (number_at 8 (at + 32) bytes)

-- the tag is that of whole numbers, or of a long description, which has their kind
abbrev pub is_whole_by : (tag : ℕ) (is_extended : Bool) → Bool
is_whole_by tag is_extended = if nat_eq tag 1 then true else if nat_eq tag 65534 then is_extended else false

abbrev pub is_whole : List ℕ → (at size : ℕ) → Bool
is_whole bytes at size = is_whole_by (number_at 2 at bytes) (is_extended bytes at size)

-- of this many bits
abbrev pub sample_of : (bits : ℕ) → Option SampleFormat
sample_of bits =
    if nat_eq bits 8 then Some U8 else if nat_eq bits 16 then Some S16 else if nat_eq bits 24 then Some S24 else None

-- the samples, if one of each channel together have as many bytes as the file says
abbrev pub framed : SampleFormat → (at frame channels : ℕ) → Result SampleFormat ℕ
framed sample at frame channels =
    if nat_eq frame (channels * sample_width sample) then Ok sample else Err (at + 12)

abbrev pub of_frame : (bytes : List ℕ) (at : ℕ) → Option SampleFormat → Result SampleFormat ℕ
of_frame bytes at None = Err (at + 14)
of_frame bytes at (Some sample) = framed sample at (number_at 2 (at + 12) bytes) (number_at 2 (at + 2) bytes)

-- the samples that this many bytes from a place on describe; or where they say something else
abbrev pub described : (bytes : List ℕ) (at size : ℕ) → Result SampleFormat ℕ
described bytes at size =
    if is_whole bytes at size then of_frame bytes at (sample_of (number_at 2 (at + 14) bytes)) else Err at

-- ---- chunks

-- where the chunk after one of this many bytes begins: at an even place
abbrev pub next_chunk : (at size : ℕ) → ℕ
next_chunk at size = at + 8 + size + size % 2

-- a description, and the chunk after it
abbrev pub told_by : Result SampleFormat ℕ → (next : ℕ) → Chunk
told_by (Ok sample) next = Next next (Some sample)
told_by (Err place) next = Told (Bad place)

-- the chunk `fmt ` at a place, which has this many bytes
abbrev pub format_of : (bytes : List ℕ) (at size : ℕ) → Chunk
format_of bytes at size =
    if nat_lt size 16 then Told (Bad (at + 4))
    else if nat_lt (length bytes) (next_chunk at size) then Told Open
    else told_by (described bytes (at + 8) size) (next_chunk at size)

-- How many bytes of samples follow a chunk `data` at a place: as many as it says; or any number, as from a pipe, by a
-- large number, or by 0 if the whole file, from byte 8 on, does not end after this chunk.
abbrev pub left_of : (whole at size : ℕ) → ℕ
left_of whole at size =
    if nat_eq size 0 && nat_lt at whole && nat_lt whole least_unknown then 0
    else if nat_eq size 0 || nat_le least_unknown size then 2 ^ 64 - 1 else size

-- the chunk `data`
abbrev pub data_of : (whole at size : ℕ) → Option SampleFormat → Head
data_of whole at size None = Bad at
data_of whole at size (Some sample) = Whole (at + 8) (record { sample = sample; left = left_of whole at size })

-- a chunk of this name and this size, in a file of this many bytes from byte 8 on
abbrev pub chunk_of : (bytes : List ℕ) (whole at : ℕ) → Option SampleFormat → (name size : ℕ) → Chunk
chunk_of bytes whole at sample name size =
    if nat_eq name (chunk_name (codes "data")) then Told (data_of whole at size sample)
    else if nat_lt most_bytes (next_chunk at size) then Told (Bad (at + 4))
    else if nat_eq name (chunk_name (codes "fmt ")) then format_of bytes at size
    else Next (next_chunk at size) sample

-- what the chunk at a place tells
abbrev pub chunk_at : (bytes : List ℕ) (at : ℕ) → Option SampleFormat → Chunk
chunk_at bytes at sample =
    if nat_lt (length bytes) (at + 8) then Told Open
    else chunk_of bytes (number_at 4 4 bytes) at sample (number_at 4 at bytes) (number_at 4 (at + 4) bytes)

-- what a chunk and those after it tell
abbrev pub chunks_after : (next_chunk : (at : ℕ) → Option SampleFormat → Head) → Chunk → Head
chunks_after next_chunk (Told head) = head
chunks_after next_chunk (Next next sample) = next_chunk next sample

-- what this many chunks tell, from a place on
abbrev pub chunks_from : (count : ℕ) (bytes : List ℕ) (at : ℕ) → Option SampleFormat → Head
chunks_from zero bytes at sample = Bad at
chunks_from (suc count) bytes at sample = chunks_after (chunks_from count bytes) (chunk_at bytes at sample)

-- what these bytes, the first of an input, tell of its head
abbrev pub head_of : List ℕ → Head
head_of bytes =
    if nat_lt (length bytes) 12 then Open
    else if nat_eq (number_at 4 0 bytes) (chunk_name (codes "RIFF")) then
    (if nat_eq (number_at 4 8 bytes) (chunk_name (codes "WAVE")) then chunks_from most_chunks bytes 12 None else Bad 8)
    else Bad 0

-- ---- what is left of the file

-- how the head reads: nothing is left of it once samples were used
abbrev pub head_at : Option Wav → List ℕ → Head
head_at None bytes = head_of bytes
head_at (Some wav) bytes = Whole 0 wav

-- ---- scaffolding

-- the head is there, of this many bytes
abbrev pub HasHead : Head → (count : ℕ) → Type 0
HasHead Open count = ⊤
HasHead (Bad at) count = ⊤
HasHead (Whole length wav) count = length ≤ count

-- the next chunk begins within the longest head
abbrev pub IsHeadWithin : Chunk → (count : ℕ) → Type 0
IsHeadWithin (Told head) count = HasHead head count
IsHeadWithin (Next next sample) count = next ≤ most_bytes
