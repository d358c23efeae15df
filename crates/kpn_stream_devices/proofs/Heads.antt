-- What follows the first bytes of an input changes nothing of its head, once they tell it.
use Rattle.std.proofs.Common.{◌≡◌, ℕ, zero, suc, ◌+◌, ◌-◌, ◌<◌, ◌≤◌, false, nat_lt, nat_eq, List, ◌++◌, length, drop, length-append, length-drop, Option, Some, None, Result, Ok, Err, refl, sym, ap, ◌∙◌, subst, inl, inr, arith}
use Rattle.std.specs.Prelude.{Bool, true, if◌then◌else◌, codes}
use Rattle.kpn_stream_devices.proofs.Common.{cases_lt, lt-ltb, le-ltb, drop-append-le, little_number, little_from-append, SampleFormat, Head, Open, Bad, Whole}
use Rattle.kpn_stream_devices.specs.declared.head.Wav.{Wav}
use Rattle.kpn_stream_devices.specs.declared.head.Chunk.{Chunk}
use Rattle.kpn_stream_devices.specs.declared.head.Chunk.TheVariants.{Told, Next}
use Rattle.kpn_stream_devices.specs.Head.{most_bytes, most_chunks, chunk_name, number_at, is_kind, is_extended, is_whole_by, is_whole, sample_of, framed, of_frame, described, next_chunk, told_by, format_of, data_of, chunk_of, chunk_at, chunks_from, chunks_after, head_of, head_at}

-- a number within the first bytes
number_again : (width at : ℕ) (us ds : List ℕ) → at + width ≤ length us
    → number_at width at (us ++ ds) ≡ number_at width at us
number_again width at us ds within =
    ap (little_number width) (drop-append-le at us ds (omega (arith, within)))
    ∙ little_from-append width (drop at us) ds (omega (arith, within, length-drop at us))

-- ---- a description

kind_again : (us ds : List ℕ) (at : ℕ) → at + 40 ≤ length us
    → is_kind (number_at 8 (at + 24) (us ++ ds)) (number_at 8 (at + 32) (us ++ ds))
    ≡ is_kind (number_at 8 (at + 24) us) (number_at 8 (at + 32) us)
kind_again us ds at within =
    ap (λ (n : ℕ). is_kind n (number_at 8 (at + 32) (us ++ ds))) (number_again 8 (at + 24) us ds (omega (arith, within)))
    ∙ ap (λ (n : ℕ). is_kind (number_at 8 (at + 24) us) n) (number_again 8 (at + 32) us ds (omega (arith, within)))

extended_again : (us ds : List ℕ) (at size : ℕ) → at + size ≤ length us
    → is_extended (us ++ ds) at size ≡ is_extended us at size
extended_again us ds at size within = elim (cases_lt size 40) [
  | inl few ↦
      ap (λ b. if b then false else is_kind (number_at 8 (at + 24) (us ++ ds)) (number_at 8 (at + 32) (us ++ ds)))
      (lt-ltb size 40 few)
      ∙ sym (ap (λ b. if b then false else is_kind (number_at 8 (at + 24) us) (number_at 8 (at + 32) us))
      (lt-ltb size 40 few))
  | inr many ↦
      ap (λ b. if nat_lt size 40 then false else b) (kind_again us ds at (omega (arith, within, many)))
]

whole_again : (us ds : List ℕ) (at size : ℕ) → 16 ≤ size → at + size ≤ length us
    → is_whole (us ++ ds) at size ≡ is_whole us at size
whole_again us ds at size some within =
    ap (λ (n : ℕ). is_whole_by n (is_extended (us ++ ds) at size)) (number_again 2 at us ds (omega (arith, some, within)))
    ∙ ap (is_whole_by (number_at 2 at us)) (extended_again us ds at size within)

frame_again : (us ds : List ℕ) (at : ℕ) (sample : Option SampleFormat) → at + 16 ≤ length us
    → of_frame (us ++ ds) at sample ≡ of_frame us at sample
frame_again us ds at None within = refl
frame_again us ds at (Some sample) within =
    ap (λ (n : ℕ). framed sample at n (number_at 2 (at + 2) (us ++ ds))) (number_again 2 (at + 12) us ds (omega (arith, within)))
    ∙ ap (λ (n : ℕ). framed sample at (number_at 2 (at + 12) us) n) (number_again 2 (at + 2) us ds (omega (arith, within)))

described_again : (us ds : List ℕ) (at size : ℕ) → 16 ≤ size → at + size ≤ length us
    → described (us ++ ds) at size ≡ described us at size
described_again us ds at size some within =
    ap (λ b. if b then of_frame (us ++ ds) at (sample_of (number_at 2 (at + 14) (us ++ ds))) else Err at)
    (whole_again us ds at size some within)
    ∙ ap (λ r. if is_whole us at size then r else Err at)
    (ap (λ (n : ℕ). of_frame (us ++ ds) at (sample_of n)) (number_again 2 (at + 14) us ds (omega (arith, some, within)))
    ∙ frame_again us ds at (sample_of (number_at 2 (at + 14) us)) (omega (arith, some, within)))

-- ---- chunks

-- a chunk that is open where the bytes are too few is told from enough bytes
told_of : (few : Bool) (chunk : Chunk) → ((if few then Told Open else chunk) ≡ Told Open → ⊥) → few ≡ false
told_of true chunk told = absurd (told refl)
told_of false chunk told = refl

enough : (n m : ℕ) → nat_lt n m ≡ false → m ≤ n
enough n m is = elim (cases_lt n m) [
  | inl less ↦ absurd (false_true (sym is ∙ lt-ltb n m less))
  | inr least ↦ least
]
  where
    false_true : false ≡ true → ⊥
    false_true e = cc

-- so it is the same with more bytes after them
same_of : (us ds : List ℕ) (count : ℕ) (before after : Chunk)
    → ((if nat_lt (length us) count then Told Open else before) ≡ Told Open → ⊥)
    → (count ≤ length us → after ≡ before)
    → (if nat_lt (length (us ++ ds)) count then Told Open else after)
    ≡ (if nat_lt (length us) count then Told Open else before)
same_of us ds count before after told same =
    let is = told_of (nat_lt (length us) count) before told in
    let least = enough (length us) count is in
    ap (λ b. if b then Told Open else after)
    (le-ltb (length (us ++ ds)) count (omega (arith, least, length-append us ds)))
    ∙ same least
    ∙ sym (ap (λ b. if b then Told Open else before) is)

within_if : (few : Bool) (bad before after : Chunk) → ((if few then bad else before) ≡ Told Open → ⊥)
    → (few ≡ false → (before ≡ Told Open → ⊥) → after ≡ before)
    → (if few then bad else after) ≡ (if few then bad else before)
within_if true bad before after told same = refl
within_if false bad before after told same = same refl told

format_again : (us ds : List ℕ) (at size : ℕ) → (format_of us at size ≡ Told Open → ⊥)
    → format_of (us ++ ds) at size ≡ format_of us at size
format_again us ds at size told =
    within_if (nat_lt size 16) (Told (Bad (at + 4))) _ _ told
    (λ some told. same_of us ds (next_chunk at size) (told_by (described us (at + 8) size) (next_chunk at size))
    (told_by (described (us ++ ds) (at + 8) size) (next_chunk at size)) told
    (λ least. ap (λ r. told_by r (next_chunk at size))
    (described_again us ds (at + 8) size (enough size 16 some) (omega (arith, least)))))

else_if : (is : Bool) (before after other : Chunk) → ((if is then before else other) ≡ Told Open → ⊥)
    → ((before ≡ Told Open → ⊥) → after ≡ before) → (if is then after else other) ≡ (if is then before else other)
else_if true before after other told same = same told
else_if false before after other told same = refl

chunk_of_again : (us ds : List ℕ) (whole at : ℕ) (sample : Option SampleFormat) (name size : ℕ)
    → (chunk_of us whole at sample name size ≡ Told Open → ⊥)
    → chunk_of (us ++ ds) whole at sample name size ≡ chunk_of us whole at sample name size
chunk_of_again us ds whole at sample name size told =
    within_if (nat_eq name (chunk_name (codes "data"))) (Told (data_of whole at size sample)) _ _ told
    (λ other told. within_if (nat_lt most_bytes (next_chunk at size)) (Told (Bad (at + 4))) _ _ told
    (λ within told. else_if (nat_eq name (chunk_name (codes "fmt "))) (format_of us at size) (format_of (us ++ ds) at size)
    (Next (next_chunk at size) sample) told (format_again us ds at size)))

-- a chunk by what its bytes and the head say
abbrev chunk_by : (at : ℕ) → Option SampleFormat → (bytes : List ℕ) (whole name size : ℕ) → Chunk
chunk_by at sample bytes whole name size = chunk_of bytes whole at sample name size

chunk_again : (us ds : List ℕ) (at : ℕ) (sample : Option SampleFormat) → (chunk_at us at sample ≡ Told Open → ⊥)
    → chunk_at (us ++ ds) at sample ≡ chunk_at us at sample
chunk_again us ds at sample told =
    same_of us ds (at + 8) (chunk_by at sample us (number_at 4 4 us) (number_at 4 at us) (number_at 4 (at + 4) us))
    (chunk_by at sample (us ++ ds) (number_at 4 4 (us ++ ds)) (number_at 4 at (us ++ ds)) (number_at 4 (at + 4) (us ++ ds))) told
    (λ least.
    ap (λ (n : ℕ). chunk_by at sample (us ++ ds) n (number_at 4 at (us ++ ds)) (number_at 4 (at + 4) (us ++ ds)))
    (number_again 4 4 us ds (omega (arith, least)))
    ∙ ap (λ (n : ℕ). chunk_by at sample (us ++ ds) (number_at 4 4 us) n (number_at 4 (at + 4) (us ++ ds)))
    (number_again 4 at us ds (omega (arith, least)))
    ∙ ap (chunk_by at sample (us ++ ds) (number_at 4 4 us) (number_at 4 at us)) (number_again 4 (at + 4) us ds (omega (arith, least)))
    ∙ chunk_of_again us ds (number_at 4 4 us) at sample (number_at 4 at us) (number_at 4 (at + 4) us)
    (λ early. told (ap (λ b. if b then Told Open else chunk_by at sample us (number_at 4 4 us) (number_at 4 at us)
    (number_at 4 (at + 4) us)) (le-ltb (length us) (at + 8) least) ∙ early)))

after_again : (next_chunk again : (at : ℕ) → Option SampleFormat → Head) (chunk : Chunk)
    → ((at : ℕ) (sample : Option SampleFormat) → (next_chunk at sample ≡ Open → ⊥)
    → again at sample ≡ next_chunk at sample)
    → (chunks_after next_chunk chunk ≡ Open → ⊥) → chunks_after again chunk ≡ chunks_after next_chunk chunk
after_again next_chunk again (Told head) same told = refl
after_again next_chunk again (Next next sample) same told = same next sample told

chunks_again : (count : ℕ) (us ds : List ℕ) (at : ℕ) (sample : Option SampleFormat)
    → (chunks_from count us at sample ≡ Open → ⊥) → chunks_from count (us ++ ds) at sample ≡ chunks_from count us at sample
chunks_again zero us ds at sample told = refl
chunks_again (suc count) us ds at sample told =
    ap (chunks_after (chunks_from count (us ++ ds)))
    (chunk_again us ds at sample (λ early. told (ap (chunks_after (chunks_from count us)) early)))
    ∙ after_again (chunks_from count us) (chunks_from count (us ++ ds)) (chunk_at us at sample) (chunks_again count us ds) told

-- a chunk tells, and those after it
pub step_is : (count : ℕ) (bytes : List ℕ) (at : ℕ) (sample : Option SampleFormat) (chunk : Chunk) → (count ≡ 0 → ⊥)
    → chunk ≡ chunk_at bytes at sample
    → chunks_after (chunks_from (count - 1) bytes) chunk ≡ chunks_from count bytes at sample
step_is zero bytes at sample chunk some is = absurd (some refl)
step_is (suc n) bytes at sample chunk some is =
    let one : suc n - 1 ≡ n = omega arith in
    ap (λ (m : ℕ). chunks_after (chunks_from m bytes) chunk) one ∙ ap (chunks_after (chunks_from n bytes)) is

-- ---- the head

abbrev head_by : (riff wave : ℕ) → Head → Head
head_by riff wave head =
    if nat_eq riff (chunk_name (codes "RIFF")) then (if nat_eq wave (chunk_name (codes "WAVE")) then head else Bad 8) else Bad 0

head_if : (few : Bool) (head : Head) → ((if few then Open else head) ≡ Open → ⊥) → few ≡ false
head_if true head told = absurd (told refl)
head_if false head told = refl

by_again : (is also : Bool) (before after : Head)
    → ((if is then (if also then before else Bad 8) else Bad 0) ≡ Open → ⊥) → ((before ≡ Open → ⊥) → after ≡ before)
    → (if is then (if also then after else Bad 8) else Bad 0) ≡ (if is then (if also then before else Bad 8) else Bad 0)
by_again false also before after told same = refl
by_again true false before after told same = refl
by_again true true before after told same = same told

pub head_again : (us ds : List ℕ) → (head_of us ≡ Open → ⊥) → head_of (us ++ ds) ≡ head_of us
head_again us ds told =
    let is = head_if (nat_lt (length us) 12) (head_by (number_at 4 0 us) (number_at 4 8 us) (chunks_from most_chunks us 12 None)) told in
    let least = enough (length us) 12 is in
    let short = ap (λ b. if b then Open else head_by (number_at 4 0 us) (number_at 4 8 us) (chunks_from most_chunks us 12 None)) is in
    ap (λ b. if b then Open else head_by (number_at 4 0 (us ++ ds)) (number_at 4 8 (us ++ ds)) (chunks_from most_chunks (us ++ ds) 12 None))
    (le-ltb (length (us ++ ds)) 12 (omega (arith, least, length-append us ds)))
    ∙ ap (λ (n : ℕ). head_by n (number_at 4 8 (us ++ ds)) (chunks_from most_chunks (us ++ ds) 12 None)) (number_again 4 0 us ds (omega (arith, least)))
    ∙ ap (λ (n : ℕ). head_by (number_at 4 0 us) n (chunks_from most_chunks (us ++ ds) 12 None)) (number_again 4 8 us ds (omega (arith, least)))
    ∙ by_again (nat_eq (number_at 4 0 us) (chunk_name (codes "RIFF"))) (nat_eq (number_at 4 8 us) (chunk_name (codes "WAVE")))
    (chunks_from most_chunks us 12 None) (chunks_from most_chunks (us ++ ds) 12 None)
    (λ early. told (short ∙ early)) (chunks_again most_chunks us ds 12 None)
    ∙ sym short

-- also where samples were used before
pub head_at_again : (wav : Option Wav) (us ds : List ℕ) → (head_at wav us ≡ Open → ⊥) → head_at wav (us ++ ds) ≡ head_at wav us
head_at_again None us ds told = head_again us ds told
head_at_again (Some wav) us ds told = refl
