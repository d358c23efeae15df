-- What the unused bytes of a window tell of a WAV file.
use Rattle.std.proofs.Common.{◌≡◌, ℕ, ◌+◌, ◌-◌, ◌<◌, ◌≤◌, ◌⊎◌, true, List, [], ◌++◌, length, take, drop, length-append, length-take, Option, Some, None, Result, Ok, Err, refl, sym, ap, ◌∙◌, subst, inl, inr, arith}
use Rattle.std.specs.Prelude.{ℤ, min, nat_eq, ◌||◌, Bool, false, if◌then◌else◌}
use Rattle.kpn_stream_devices.proofs.Common.{cases_lt, lt-ltb, SourceFault, BadHead, CutSample, SampleFormat, U8, S8, S16, S24, S32, S64, F32, Head, Open, Bad, Whole, sample_width, sample_value, head_at, least_unknown, One, Other}
use Rattle.std.proofs.lemmas.List.{append-nil, length-drop, drop-append-le, drop-drop, drop-take, take-append-drop, take-append-le, take_all}
use Rattle.kpn_stream_devices.specs.declared.head.Wav.{Wav}
use Rattle.kpn_stream_devices.specs.Window.{Window, one_after, with_one, left_of, IfKnown, IsEndKnown, SampleGives, SamplesGoOn, DataGives, WavGives, answer_of, IsRightOfWav, data_of, end_told, fills_up, ends_samples}
use Rattle.kpn_stream_devices.proofs.Heads.{head_at_again}
use Rattle.kpn_stream_devices.proofs.Telling.{value_again, counts, sample_gives}

abbrev pub shorter : Wav → (width : ℕ) → Wav
shorter wav width = record wav { left = wav.left - width }

-- the answer after the last sample, by whether that is the end
abbrev told_by : (ends_samples : Bool) → Result (Option ℤ) SourceFault
told_by ends_samples = if ends_samples then Ok None else Err CutSample

-- the end, by whether nothing is left that is counted, whether any is counted, and what else is left
abbrev end_by : (is_none is_counted fills_up : Bool) → Bool
end_by is_none is_counted fills_up = if is_none then true else if is_counted then false else fills_up

counted_end : (is_none also other : Bool) → end_by is_none true also ≡ end_by is_none true other
counted_end true also other = refl
counted_end false also other = refl

few_wide : (sample : SampleFormat) → sample_width sample ≤ 8
few_wide U8 = omega arith
few_wide S8 = omega arith
few_wide S16 = omega arith
few_wide S24 = omega arith
few_wide S32 = omega arith
few_wide S64 = omega arith
few_wide (F32 power) = omega arith

-- ---- a head that is not there

-- a wrong head is wrong whatever follows
pub bad_tells : (w : Window) (at : ℕ) → head_at w.wav w.unused ≡ Bad at → IsRightOfWav w (Other (Err (BadHead at)))
bad_tells w at is written = record { counted = refl; given = told }
  where
    told : (device : Option (List ℕ)) → IsEndKnown w device → IfKnown (left_of w device) (left_of w device)
        (λ l r. WavGives (head_at w.wav l) l w.wav r (Err (BadHead at)))
    told None over = tt
    told (Some ds) over =
        subst (λ (h : Head). WavGives h (w.unused ++ ds) w.wav (w.unused ++ ds) (Err (BadHead at)))
        (sym (head_at_again w.wav w.unused ds (λ early. differs (sym is ∙ early)) ∙ is)) refl
      where
        differs : Bad at ≡ Open → ⊥
        differs e = cc

-- one within which the input ends is wrong there
pub open_tells : (w : Window) → w.is_over ≡ true → head_at w.wav w.unused ≡ Open
    → IsRightOfWav w (Other (Err (BadHead (length w.unused))))
open_tells w over is written = record { counted = refl; given = told }
  where
    told : (device : Option (List ℕ)) → IsEndKnown w device → IfKnown (left_of w device) (left_of w device)
        (λ l r. WavGives (head_at w.wav l) l w.wav r (Err (BadHead (length w.unused))))
    told None known = tt
    told (Some ds) known =
        subst (λ (l : List ℕ). WavGives (head_at w.wav l) l w.wav (w.unused ++ ds) (Err (BadHead (length w.unused))))
        (sym (ap (λ es. w.unused ++ es) (known over) ∙ append-nil w.unused))
        (subst (λ (h : Head). WavGives h w.unused w.wav (w.unused ++ ds) (Err (BadHead (length w.unused)))) (sym is) refl)

-- ---- samples

-- the head is there, and this follows
module _ (w : Window) (count : ℕ) (wav : Wav) (head : head_at w.wav w.unused ≡ Whole count wav)
    (within : count ≤ length w.unused) where
  -- the unused bytes after the head
  abbrev us : List ℕ
  us = drop count w.unused

  -- the head stays, whatever follows
  head_stays : (ds : List ℕ) → head_at w.wav (w.unused ++ ds) ≡ Whole count wav
  head_stays ds = head_at_again w.wav w.unused ds (λ early. differs (sym head ∙ early)) ∙ head
    where
      differs : Whole count wav ≡ Open → ⊥
      differs e = cc

  -- the samples of all that is left
  data_is : (ds : List ℕ) → data_of (Whole count wav) (w.unused ++ ds) ≡ take wav.left (us ++ ds)
  data_is ds = ap (take wav.left) (drop-append-le count w.unused ds within)

  gives : (ds : List ℕ) (after : Option Wav) (rest : List ℕ) (answer : Result (Option ℤ) SourceFault)
      → DataGives wav (take wav.left (us ++ ds)) (data_of (head_at after rest) rest) answer
      → SamplesGoOn wav.sample answer after
      → WavGives (head_at w.wav (w.unused ++ ds)) (w.unused ++ ds) after rest answer
  gives ds after rest answer given goes_on =
      subst (λ (h : Head). WavGives h (w.unused ++ ds) after rest answer) (sym (head_stays ds)) (
        subst (λ (samples : List ℕ). DataGives wav samples (data_of (head_at after rest) rest) answer)
            (sym (data_is ds)) given,
        goes_on,
      )

  -- a sample does not depend on what follows it
  first_is : (ds : List ℕ) → sample_width wav.sample ≤ length us → sample_width wav.sample ≤ wav.left
      → sample_value wav.sample (take wav.left (us ++ ds)) ≡ sample_value wav.sample us
  first_is ds some enough =
      sym (value_again wav.sample (take wav.left (us ++ ds)) (drop wav.left (us ++ ds))
      (omega (arith, some, enough, length-take wav.left (us ++ ds), length-append us ds)))
      ∙ ap (sample_value wav.sample) (take-append-drop wav.left (us ++ ds))
      ∙ value_again wav.sample us ds some

  -- those after it are left
  rest_is : (width : ℕ) (ds : List ℕ) → width ≤ length us → width ≤ wav.left
      → take (wav.left - width) (drop (count + width) w.unused ++ ds) ≡ drop width (take wav.left (us ++ ds))
  rest_is width ds some enough =
      let whole : wav.left ≡ width + (wav.left - width) = omega (arith, enough) in
      ap (take (wav.left - width))
      (ap (λ (es : List ℕ). es ++ ds) (sym (drop-drop width count w.unused))
      ∙ sym (drop-append-le width us ds some))
      ∙ sym (drop-take width (wav.left - width) (us ++ ds))
      ∙ ap (λ (n : ℕ). drop width (take n (us ++ ds))) (sym whole)

  goes_on : (wide number : ℕ) (item : Option ℤ) → SamplesGoOn wav.sample (answer_of item number) (Some (shorter wav wide))
  goes_on wide number (Some v) = refl
  goes_on wide number None = tt

  data_gives : (before after : List ℕ) (item : Option ℤ) (number : ℕ)
      → SampleGives wav.sample before after (answer_of item number) → DataGives wav before after (answer_of item number)
  data_gives before after (Some v) number gives = gives
  data_gives before after None number gives = gives

  -- a sample whose bytes were read
  sample_told : sample_width wav.sample ≤ length us → sample_width wav.sample ≤ wav.left
      → IsRightOfWav w (One (sample_value wav.sample us) (count + sample_width wav.sample)
      (Some (shorter wav (sample_width wav.sample))))
  sample_told some enough written = (
    omega (arith, within, some, length-drop count w.unused),
    record {
      counted = counts w.used (sample_value wav.sample us);
      given = told;
    },
  )
    where
      told : (device : Option (List ℕ)) → IsEndKnown w device → IfKnown (left_of w device)
          (left_of (with_one (count + sample_width wav.sample) (Some (shorter wav (sample_width wav.sample))) w) device)
          (λ l r. WavGives (head_at w.wav l) l (Some (shorter wav (sample_width wav.sample))) r
          (answer_of (sample_value wav.sample us) (one_after w.used)))
      told None known = tt
      told (Some ds) known =
          gives ds (Some (shorter wav (sample_width wav.sample))) (drop (count + sample_width wav.sample) w.unused ++ ds)
          (answer_of (sample_value wav.sample us) (one_after w.used))
          (data_gives (take wav.left (us ++ ds))
          (take (wav.left - sample_width wav.sample) (drop (count + sample_width wav.sample) w.unused ++ ds))
          (sample_value wav.sample us) (one_after w.used)
          (sample_gives wav.sample (take wav.left (us ++ ds))
          (take (wav.left - sample_width wav.sample) (drop (count + sample_width wav.sample) w.unused ++ ds))
          (sample_value wav.sample us) (one_after w.used)
          (omega (arith, some, enough, length-take wav.left (us ++ ds), length-append us ds))
          (rest_is (sample_width wav.sample) ds some enough) (first_is ds some enough)))
          (goes_on (sample_width wav.sample) (one_after w.used) (sample_value wav.sample us))

  pub wav_tells : (item : Option ℤ) (width : ℕ) → width ≡ sample_width wav.sample → width ≤ length us
      → width ≤ wav.left → item ≡ sample_value wav.sample us
      → IsRightOfWav w (One item (count + width) (Some (shorter wav width)))
  wav_tells item width wide some enough value =
      subst (λ (i : Option ℤ). IsRightOfWav w (One i (count + width) (Some (shorter wav width)))) (sym value)
      (subst (λ (n : ℕ). IsRightOfWav w (One (sample_value wav.sample us) (count + n) (Some (shorter wav n)))) (sym wide)
      (sample_told (omega (arith, wide, some)) (omega (arith, wide, enough))))

  -- no more samples come: the input is over, or all of them were read
  abbrev pub AllRead : Type 0
  AllRead = (w.is_over ≡ true) ⊎ (wav.left ≤ length us)

  all_read : (ds : List ℕ) → AllRead → (w.is_over ≡ true → ds ≡ []) → take wav.left (us ++ ds) ≡ take wav.left us
  all_read ds (inl over) known = ap (λ (es : List ℕ). take wav.left (us ++ es)) (known over) ∙ ap (take wav.left) (append-nil us)
  all_read ds (inr many) known = take-append-le wav.left us ds many

  few_tells : (answer : Result (Option ℤ) SourceFault) → AllRead
      → ((rest : List ℕ) → DataGives wav (take wav.left us) rest answer)
      → ((after : Option Wav) → SamplesGoOn wav.sample answer after)
      → (device : Option (List ℕ)) → IsEndKnown w device → IfKnown (left_of w device) (left_of w device)
      (λ l r. WavGives (head_at w.wav l) l w.wav r answer)
  few_tells answer all given on None known = tt
  few_tells answer all given on (Some ds) known =
      gives ds w.wav (w.unused ++ ds) answer
      (subst (λ (samples : List ℕ). DataGives wav samples (data_of (head_at w.wav (w.unused ++ ds)) (w.unused ++ ds)) answer)
      (sym (all_read ds all known)) (given (data_of (head_at w.wav (w.unused ++ ds)) (w.unused ++ ds)))) (on w.wav)

  -- what is left after the last sample is the end, or a part of one
  end_tells : AllRead → length (take wav.left us) < sample_width wav.sample → (at_end : Bool)
      → ends_samples wav (take wav.left us) ≡ at_end → IsRightOfWav w (Other (told_by at_end))
  end_tells all few true is written = record {
    counted = refl;
    given = few_tells (Ok None) all (λ rest. is) (λ after. tt);
  }
  end_tells all few false is written = record {
    counted = refl;
    given = few_tells (Err CutSample) all (λ rest. (few, is)) (λ after. tt);
  }

  same_end : min wav.left (length us) < sample_width wav.sample → ends_samples wav (take wav.left us) ≡ ends_samples wav us
  same_end few = elim (cases_lt wav.left least_unknown) [
    | inl less ↦
        ap (λ b. end_by (nat_eq wav.left 0) b (ends (take wav.left us))) (lt-ltb wav.left least_unknown less)
        ∙ counted_end (nat_eq wav.left 0) (ends (take wav.left us)) (ends us)
        ∙ sym (ap (λ b. end_by (nat_eq wav.left 0) b (ends us)) (lt-ltb wav.left least_unknown less))
    | inr least ↦
        ap (ends_samples wav) (take_all wav.left us (omega (arith, few, least, few_wide wav.sample)))
  ]
    where
      ends : List ℕ → Bool
      ends bytes = nat_eq (length bytes) 0 || fills_up wav bytes

  -- so the answer is right where no more come
  pub few_tell : AllRead → min wav.left (length us) < sample_width wav.sample → IsRightOfWav w (Other (end_told wav us))
  few_tell all few =
      end_tells all (omega (arith, few, length-take wav.left us)) (ends_samples wav us) (same_end few)
