-- Each channel of the whole has a home, and a search over all channels of all parts finds it.
use Rattle.kpn_parts.proofs.Common.{◌≡◌, ℕ, ◌+◌, ◌<◌, ◌≤◌, true, false, List, [], ◌∷◌, ◌++◌, length, get_or, refl, sym, ap, ◌∙◌, subst, inl, inr, arith, cases_eq, cases_lt, both_ways, get_or_past, Tables, channel_at, is_source, IsNetwork, End, Process, Source, Sink, writer_of, reader_of, Writes, Reads, Reads-below, Writes-below, Writes-writer_of, Reads-reader_of, source-writer_of, sink-reader_of, reader_is_no_source, writer_is_no_sink, Part, empty_part, part_at, IsCut, IsHome}
use Rattle.std.proofs.Math.ListN.{get_or-append}
use Rattle.std.proofs.Math.Seq.{get_or-append_seam}
use Rattle.kpn_parts.specs.declared.link.ChannelHome.{ChannelHome}
use Rattle.kpn_parts.proofs.Cuts.{IsBefore, before_next, nothing_before}
use Rattle.kpn_parts.proofs.Renaming.{reads_back, writes_back}
use Rattle.kpn_parts.proofs.Ends.{part_of, source_or_sink, no_cut_source}

-- ---- each channel has one

module _ (t : Tables) (network : IsNetwork t) (cut : List Part) (is : IsCut t cut) (c : ℕ) where
  by_writer : (q : ℕ) → Writes t q c → (home : ChannelHome) × IsHome t cut home c
  by_writer q writes =
      let at = is.home q writes.process in
      let back =
      writes_back t (part_at cut at.part) (part_of t cut is at.part) at.process at.there c
      (subst (λ y. Writes t y c) (sym at.is) writes) in
      let here : Writes (part_at cut at.part).tables at.process back.channel =
      record { process = at.there; place = back.stands } in (
        record { part = at.part; channel = back.channel },
        record {
          there = Writes-below (part_at cut at.part).tables (part_of t cut is at.part).network _ _ here;
          same = back.is;
          own = no_cut_source t network cut is at.part back.channel at.process here;
        },
      )

  by_reader : (q : ℕ) → is_source (channel_at t c) ≡ true → Reads t q c → (home : ChannelHome) × IsHome t cut home c
  by_reader q source reads =
      let at = is.home q reads.process in
      let back =
      reads_back t (part_at cut at.part) (part_of t cut is at.part) at.process at.there c
      (subst (λ y. Reads t y c) (sym at.is) reads) in
      let here : Reads (part_at cut at.part).tables at.process back.channel =
      record { process = at.there; place = back.stands } in (
        record { part = at.part; channel = back.channel },
        record {
          there = Reads-below (part_at cut at.part).tables (part_of t cut is at.part).network _ _ here;
          same = back.is;
          own = λ h. both_ways (is_source (channel_at t c)) (subst (λ y. is_source (channel_at t y) ≡ false) back.is h.cut) source;
        },
      )

  pub has_home : c < length t.channels → (home : ChannelHome) × IsHome t cut home c
  has_home below = which (writer_of t c) refl
    where
      fed : is_source (channel_at t c) ≡ true → (end : End) → reader_of t c ≡ end
          → (home : ChannelHome) × IsHome t cut home c
      fed source (Process q) e = by_reader q source (Reads-reader_of t q c e)
      fed source Source e = absurd (reader_is_no_source t network c below e)
      fed source Sink e = absurd (source_or_sink (channel_at t c) source (sink-reader_of t c e))

      which : (end : End) → writer_of t c ≡ end → (home : ChannelHome) × IsHome t cut home c
      which (Process q) e = by_writer q (Writes-writer_of t q c e)
      which Source e = fed (source-writer_of t c e) (reader_of t c) refl
      which Sink e = absurd (writer_is_no_sink t network c below e)

-- ---- the search

module _ (t : Tables) (cut : List Part) (c : ℕ) where
  -- no place before this one is a home
  abbrev pub NoneBefore : (r d : ℕ) → Type 0
  NoneBefore r d = (home : ChannelHome) → IsBefore home.part home.channel r d → ¬ IsHome t cut home c

  pub none_start : NoneBefore 0 0
  none_start home before is = nothing_before home.part home.channel before

  pub none_past : (r d : ℕ) → NoneBefore r d → ¬ IsHome t cut (record { part = r; channel = d }) c
      → NoneBefore r (d + 1)
  none_past r d before none home behind is =
      elim (before_next home.part home.channel r d behind) [
        | inl earlier ↦ before home earlier is
        | inr here ↦
            let same : home ≡ record { part = r; channel = d } = λ i. record { part = here.0 i; channel = here.1 i } in
            none (subst (λ it. IsHome t cut it c) same is)
      ]

  pub none_part : (r d : ℕ) → NoneBefore r d → length (part_at cut r).tables.channels ≤ d → NoneBefore (r + 1) 0
  none_part r d before all home behind is = before home (place behind) is
    where
      place : IsBefore home.part home.channel (r + 1) 0 → IsBefore home.part home.channel r d
      place (inl less) =
          elim (cases_eq home.part r) [
            | inl last ↦
                let here = subst (λ y. home.channel < length (part_at cut y).tables.channels) last is.there in
                inr (last, omega (arith, here, all))
            | inr first ↦ inl (omega (arith, less))
          ]
      place (inr here) = absurd omega (arith, here.1)

  pub none_at_all : (r : ℕ) → NoneBefore r 0 → length cut ≤ r → (home : ChannelHome) → ¬ IsHome t cut home c
  none_at_all r before all home is =
      elim (cases_lt home.part (length cut)) [
        | inl there ↦ before home (inl (omega (arith, there, all))) is
        | inr past ↦
            absurd
            omega (
              arith,
              subst (λ part. home.channel < length part.tables.channels)
                  (get_or_past cut home.part empty_part past) is.there,
            )
      ]

-- ---- all homes

-- the first channels have these homes
pub record AreFirst (t : Tables) (cut : List Part) (homes : List ChannelHome) (n : ℕ) : Type 0 where
  pub count : length homes ≡ n
  pub each : (c : ℕ) (d : ChannelHome) → c < n → IsHome t cut (get_or homes c d) c

pub first_next : (t : Tables) (cut : List Part) (homes : List ChannelHome) (n : ℕ) (home : ChannelHome)
    → AreFirst t cut homes n → IsHome t cut home n → AreFirst t cut (homes ++ home ∷ []) (n + 1)
first_next t cut homes n home first is =
    record {
      count = pushed homes ∙ ap (λ k. k + 1) first.count;
      each = λ c d below.
          elim (cases_eq c n) [
            | inl last ↦
                subst (λ y. IsHome t cut (get_or (homes ++ home ∷ []) y d) y) (sym last)
                (subst (λ it. IsHome t cut it n)
                (sym (subst (λ y. get_or (homes ++ home ∷ []) y d ≡ home) first.count (get_or-append_seam homes home [] d)))
                is)
            | inr earlier ↦
                let there : c < n = omega (arith, below, earlier) in
                subst (λ it. IsHome t cut it c)
                (sym (get_or-append homes (home ∷ []) d c (subst (λ m. c < m) (sym first.count) there)))
                (first.each c d there)
          ];
    }
  where
    pushed : (xs : List ChannelHome) → length (xs ++ home ∷ []) ≡ length xs + 1
    pushed [] = refl
    pushed (x ∷ xs) = let e = pushed xs in omega (arith, e)
