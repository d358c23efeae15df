-- What a final run has made, no other run from the same lists passes, whatever the order in which their processes went.
-- The proof is two inductions over events, without diamonds of steps. First: of the processes for which a growth is
-- owed in one run, no other run makes more before that growth. Then: event by event, a run stays within a final one.
use Rattle.kpn_history.proofs.Common.{Contains, range_with_len, ◌≡◌, ℕ, ◌+◌, ◌<◌, ◌≤◌, ◌⊎◌, Bool, true, false, cond, List, [], ◌∷◌, ◌++◌, length, map, refl, sym, ap, ◌∙◌, subst, inl, inr, arith, unwrap_or, cases_lt, eqb-true, both_ways, false≢true, sum_by_push, IsPrefix, got_at, put_at, Full, End, Process, Source, Sink, Tables, channel_at, is_source, writer_of, reader_of, IsNetwork, Family, How, Event, Put, Feed, Ended, Grow, talk_of, written_in, written_on, read_on, fed, is_closed, is_left, is_growth_of, capacity_or_zero, wait_of, OwesGrowth, Legal, growths_of, IsRunFrom, IsFinalRun, HasMadeNoMore, EndAlike, IsPrefix-trans, IsPrefix-same, IsPrefix-antisym, got_at-prefix, put_at-prefix, in_range, Contains-first, Contains-later, writer_of-Writes, Writes-writer_of, Reads-reader_of, writer_of-source, source-writer_of, sink-reader_of, source_there, sink_there, reader_is_no_source}
use Rattle.kpn_history.proofs.Legality.{Legal-last, by_events}
use Rattle.kpn_history.proofs.Events.{written_on-same}
use Rattle.kpn_history.proofs.Ownership.{Owns, Owns-last}
use Rattle.kpn_history.proofs.Journals.{none_elsewhere, written_on-put, read_on-got, read_on-outside}
use Rattle.kpn_history.proofs.Below.{fed-source}
use Rattle.kpn_history.proofs.Above.{all_read}
use Rattle.kpn_history.proofs.WaitsAfter.{last_is_own}
use Rattle.kpn_history.proofs.EndsOnce.{ended_by, end_among}
use Rattle.kpn_history.proofs.Growth.{none_owed_at_first, nothing_can_grow}
use Rattle.kpn_history.proofs.OwedGrowth.{no_wait_left}
use Rattle.kpn_history.proofs.Rests.{Rests, last_if_ended, same_rest, says_within}
use Rattle.kpn_history.proofs.Standing.{Stand, AreWithin, run_before, says_no_more, ends_no_more}
use Rattle.kpn_history.proofs.OwedSets.{OwedTo, owed_stand, all_stand, cycle_stands, one_next, cycle_carried, same_capacity, same_wait, waits_alike}

-- ---- growths after one more event

pub growths_of-push : (B : List Event) (e : Event) (c : ℕ)
    → growths_of (B ++ e ∷ []) c ≡ growths_of B c + cond (is_growth_of c e) 1 0
growths_of-push B e c = sum_by_push (λ x. cond (is_growth_of c x) 1 0) B e

-- a growth of a channel was owed
pub record WasOwed (t : Tables) (B : List Event) (c : ℕ) : Type 0 where
  pub process : ℕ
  pub owed : OwesGrowth t B process c

pub was_owed : (t : Tables) (B : List Event) (e : Event) → Legal t (B ++ e ∷ []) → (c : ℕ) → is_growth_of c e ≡ true
    → WasOwed t B c
was_owed t B (Grow p d n) legal c is =
    record {
      process = p;
      owed = subst (OwesGrowth t B p) (eqb-true d c is) (Legal-last t B (Grow p d n) legal).due;
    }
was_owed t B e legal c is = absurd (false≢true is)

-- by whether the event is a growth of the channel: if it is one, the channel may not have grown as often before
pub grown_with : (t : Tables) (B G : List Event) (e : Event) → Legal t (B ++ e ∷ []) → (c : ℕ)
    → growths_of B c ≤ growths_of G c
    → (WasOwed t B c → is_growth_of c e ≡ true → growths_of B c ≡ growths_of G c → ⊥)
    → growths_of (B ++ e ∷ []) c ≤ growths_of G c
grown_with t B G e legal c so_far grows = by_growth (is_growth_of c e) refl
  where
    by_growth : (b : Bool) → is_growth_of c e ≡ b → growths_of (B ++ e ∷ []) c ≤ growths_of G c
    by_growth false is =
        let next = growths_of-push B e c ∙ ap (λ x. growths_of B c + cond x 1 0) is in omega arith
    by_growth true is =
        let next = growths_of-push B e c ∙ ap (λ x. growths_of B c + cond x 1 0) is in
        elim (cases_lt (growths_of B c) (growths_of G c)) [
          | inl fewer ↦ omega arith
          | inr as_often ↦
              let same : growths_of B c ≡ growths_of G c = omega arith in
              absurd (grows (was_owed t B e legal c is) is same)
        ]

-- ---- what is owed in one run

module _ (t : Tables) (network : IsNetwork t) (given : Family) where
  -- of the processes for which a growth is owed in the first, the second has made no more, unless the same channel has
  -- grown there
  abbrev Limits : List Event → List Event → Type 0
  Limits H G =
      (p d : ℕ) (owed : OwesGrowth t H p d)
      → (growths_of H d < growths_of G d) ⊎ AreWithin t G H (OwedTo t H p d owed)

  limits_next : (H : List Event) → IsRunFrom t given H → (B : List Event) (e : Event)
      → IsRunFrom t given (B ++ e ∷ []) → Limits H B → Limits B H → Limits H (B ++ e ∷ [])
  limits_next H run B e more limits back p d owed =
      let next = growths_of-push B e d in
      elim (limits p d owed) [
        | inl grown ↦ inl (omega arith)
        | inr within ↦ elim (cases_lt (growths_of H d) (growths_of (B ++ e ∷ []) d)) [
          | inl grown ↦ inl grown
          | inr as_often ↦ inr (record {
            said = says_no_more t network given H run Z stand B e more within;
            ended = ends_no_more t network given H run Z stand B e more within;
            grown = λ q c member waits.
                grown_with t B H e more.legal c (within.grown q c member waits)
                (λ was is same. grows within as_often q c member waits was is same);
          })
        ]
      ]
    where
      Z : ℕ → Type 0
      Z = OwedTo t H p d owed

      stand : Stand t H (OwedTo t H p d owed)
      stand = owed_stand t network H run.legal p d owed

      -- a channel that has grown as often in both, and for which the growth is owed, is the same in both
      grows : AreWithin t B H (OwedTo t H p d owed) → growths_of (B ++ e ∷ []) d ≤ growths_of H d → (q c : ℕ)
          → OwedTo t H p d owed q → wait_of t H q ≡ Full c → WasOwed t B c → is_growth_of c e ≡ true
          → growths_of B c ≡ growths_of H c → ⊥
      grows within as_often q c member waits was is same =
          elim (back was.process c was.owed) [
            | inl fewer ↦ omega arith
            | inr other ↦
                let one : d ≡ c =
                one_next t network given H B run (run_before t network given B e more) p d was.process c owed was.owed
                within other (sym same) q member waits in
                let later : growths_of (B ++ e ∷ []) c ≤ growths_of H c =
                subst (λ x. growths_of (B ++ e ∷ []) x ≤ growths_of H x) one as_often in
                let after = growths_of-push B e c ∙ ap (λ x. growths_of B c + cond x 1 0) is in
                omega arith
          ]

  abbrev LimitEachOther : List Event → List Event → Type 0
  LimitEachOther H G = IsRunFrom t given H → IsRunFrom t given G → Limits H G × Limits G H

  limits-nil : (H : List Event) → Limits H []
  limits-nil H p d owed =
      inr (record {
        said = λ q member. tt;
        ended = λ q member is. absurd (false≢true is);
        grown = λ q c member waits. omega arith;
      })

  nil-limits : (H : List Event) → Limits [] H
  nil-limits H p d owed = absurd (none_owed_at_first t p d owed)

  limit_each_other : (H : List Event) → Legal t H → (G : List Event) → Legal t G → LimitEachOther H G
  limit_each_other =
      by_events t (λ H. (G : List Event) → Legal t G → LimitEachOther H G)
      (λ G legal run-H run-G. (nil-limits G, limits-nil G))
      (λ B e legal outer.
      by_events t (LimitEachOther (B ++ e ∷ []))
      (λ run-H run-G. (limits-nil (B ++ e ∷ []), nil-limits (B ++ e ∷ [])))
      (λ C f legal-C inner run-H run-G.
      let short = inner run-H (run_before t network given C f run-G) in
      let long = outer (C ++ f ∷ []) legal-C (run_before t network given B e run-H) run-G in (
        limits_next (B ++ e ∷ []) run-H C f run-G short.0 short.1,
        limits_next (C ++ f ∷ []) run-G B e run-H long.1 long.0,
      )))

  pub limits_of : (H G : List Event) → IsRunFrom t given H → IsRunFrom t given G → Limits H G
  limits_of H G run-H run-G = (limit_each_other H run-H.legal G run-G.legal run-H run-G).0

-- nothing is written on a channel that nobody writes
unwritten : (t : Tables) → IsNetwork t → (c : ℕ) → writer_of t c ≡ Sink → (H : List Event) → Legal t H
    → written_on H c ≡ []
unwritten t network c none =
    by_events t (λ H. written_on H c ≡ []) refl
    (λ B e legal h. written_on-same B e c (by_event e (Owns-last t network B e legal)) ∙ h)
  where
    by_event : (e : Event) → Owns t e → written_in c e ≡ []
    by_event (Put q d v) owns =
        none_elsewhere d c v
        (λ same.
        let writes : writer_of t c ≡ Process q =
        subst (λ x. writer_of t x ≡ Process q) same (writer_of-Writes t network q d owns) in
        absurd cc)
    by_event (Feed d v) owns =
        none_elsewhere d c v
        (λ same.
        let source : writer_of t c ≡ Source =
        subst (λ x. writer_of t x ≡ Source) same (writer_of-source t d owns) in
        absurd cc)
    by_event event owns = refl

-- ---- what was made of all processes

-- if each source is closed, nothing more was made at all
module _ (t : Tables) (network : IsNetwork t) (given : Family) (H G : List Event) (run : IsRunFrom t given H)
    (run-G : IsRunFrom t given G) (closed : (c : ℕ) → is_source (channel_at t c) ≡ true → is_closed G c ≡ true)
    (within : AreWithin t H G (λ p. p < length t.instances)) (grown : (c : ℕ) → growths_of H c ≤ growths_of G c) where
  ended_so : (p : ℕ) (how : How) → Contains H (Ended p how) → Contains G (Ended p how)
  ended_so p how h =
      let last = last_if_ended t p how H run.legal h in
      let there : p < length t.instances = (last_is_own t network p H run.legal (Ended p how) last).owns in
      let end = end_among G p (within.ended p there (ended_by H p how h)) in
      let rests : Rests t H p (Ended p how) = record { last = last; is = tt } in
      let stays : Rests t G p (Ended p end.0) =
      record { last = last_if_ended t p end.0 G run-G.legal end.1; is = tt } in
      let same : talk_of H p ≡ talk_of G p =
      IsPrefix-antisym (talk_of H p) (talk_of G p) (within.said p there)
      (says_within t network given G H run-G.legal run.legal run-G.fed.begun run.fed.begun p there
      (Ended p how) rests tt) in
      subst (Contains G)
      (sym
      (same_rest t network H G run.legal run-G.legal p there same (Ended p how) (Ended p end.0) rests stays))
      end.1

  written_so : (c : ℕ) (writer : End) → writer_of t c ≡ writer → IsPrefix (written_on H c) (written_on G c)
  written_so c (Process q) w =
      IsPrefix-trans (written_on H c) (put_at (talk_of H q) c) (written_on G c)
      (IsPrefix-same _ _ (written_on-put t network c q w H run.legal))
      (IsPrefix-trans (put_at (talk_of H q) c) (put_at (talk_of G q) c) (written_on G c)
      (put_at-prefix (talk_of H q) (talk_of G q) c (within.said q (Writes-writer_of t q c w).process))
      (IsPrefix-same _ _ (sym (written_on-put t network c q w G run-G.legal))))
  written_so c Source w =
      let source = source-writer_of t c w in
      IsPrefix-trans (written_on H c) (fed t H c) (written_on G c)
      (IsPrefix-same _ _ (sym (fed-source t H c source)))
      (IsPrefix-trans (fed t H c) (given c) (written_on G c) (run.fed.begun.each c source)
      (IsPrefix-same _ _
      (sym (run-G.fed.whole c source (closed c source)))))
  written_so c Sink w = subst (λ xs. IsPrefix xs (written_on G c)) (sym (unwritten t network c w H run.legal)) tt

  pub no_more_within : HasMadeNoMore t H G
  no_more_within =
      record {
        said = within.said;
        ended = ended_so;
        written = λ c. written_so c (writer_of t c) refl;
        read = λ c p reader.
            IsPrefix-trans (read_on H c) (got_at (talk_of H p) c) (read_on G c)
            (IsPrefix-same _ _ (read_on-got t network c p reader H run.legal))
            (IsPrefix-trans (got_at (talk_of H p) c) (got_at (talk_of G p) c) (read_on G c)
            (got_at-prefix (talk_of H p) (talk_of G p) c
            (within.said p (Reads-reader_of t p c reader).process))
            (IsPrefix-same _ _ (sym (read_on-got t network c p reader G run-G.legal))));
        grown = grown;
      }

-- ---- a run beside a final one

module _ (t : Tables) (network : IsNetwork t) (given : Family) (G : List Event) (over : IsFinalRun t given G) where
  stand : Stand t G (λ p. p < length t.instances)
  stand = all_stand t network G over.run.legal over.settled

  record StaysWithin (H : List Event) : Type 0 where
    within : AreWithin t H G (λ p. p < length t.instances)
    grown : (c : ℕ) → growths_of H c ≤ growths_of G c

  -- no growth was owed for a channel that has grown as often
  not_owed : (B : List Event) → IsRunFrom t given B → StaysWithin B → (c : ℕ) → WasOwed t B c
      → growths_of B c ≡ growths_of G c → ⊥
  not_owed B run so_far c was same =
      elim (limits_of t network given B G run over.run was.process c was.owed) [
        | inl fewer ↦ omega arith
        | inr back ↦ by_owed was.process was.owed back
      ]
    where
      by_owed : (q : ℕ) (owed : OwesGrowth t B q c) → AreWithin t G B (OwedTo t B q c owed) → ⊥
      by_owed q (inl owed) back =
          let cycle = cycle_stands t network B run.legal q owed.others owed.cycle in
          nothing_can_grow t network G over.run.legal over.nothing_owed
          (cycle_carried t network given G B over.run run q owed.others owed.cycle
          (λ y among.
          waits_alike t network given G B over.run run (λ p. p < length t.instances) (Contains (q ∷ owed.others))
          stand cycle so_far.within back y (cycle y among).there among)
          c owed.smallest.among (sym same) owed.below_limit)
      by_owed q (inr owed) back =
          let waits =
          waits_alike t network given G B over.run run (λ p. p < length t.instances) (λ p. p < length t.instances)
          stand (all_stand t network B run.legal owed.settled) so_far.within back q owed.there owed.there in
          let limit =
          no_wait_left t network G over.run.legal over.nothing_owed owed.policy over.settled q c owed.there
          (waits ∙ owed.waits) in
          let here : capacity_or_zero t B c ≡ t.limit =
          ap (λ o. unwrap_or o 0) (same_capacity t B G c same ∙ limit) in
          let below = owed.below_limit in
          omega arith

  stays_within : (H : List Event) → Legal t H → IsRunFrom t given H → StaysWithin H
  stays_within =
      by_events t (λ H. IsRunFrom t given H → StaysWithin H)
      (λ run. record {
        within = record {
          said = λ p there. tt;
          ended = λ p there is. absurd (false≢true is);
          grown = λ p c there waits. omega arith;
        };
        grown = λ c. omega arith;
      })
      (λ B e legal before run.
      let earlier = run_before t network given B e run in
      let so_far = before earlier in
      let grown : (c : ℕ) → growths_of (B ++ e ∷ []) c ≤ growths_of G c =
      λ c.
      grown_with t B G e legal c (so_far.grown c) (λ was is same. not_owed B earlier so_far c was same) in
      record {
        within = record {
          said =
              says_no_more t network given G over.run (λ p. p < length t.instances) stand B e run so_far.within;
          ended =
              ends_no_more t network given G over.run (λ p. p < length t.instances) stand B e run so_far.within;
          grown = λ p c there waits. grown c;
        };
        grown = grown;
      })

  pub made_no_more : (H : List Event) → IsRunFrom t given H → HasMadeNoMore t H G
  made_no_more H run =
      let below = stays_within H run.legal run in
      no_more_within t network given H G run over.run
      (λ c source. over.settled.sources c (source_there t c source) source) below.within below.grown

-- ---- two final runs

map_same : {A : Type 0} (f g : ℕ → A) (xs : List ℕ) → ((p : ℕ) → Contains xs p → f p ≡ g p) → map f xs ≡ map g xs
map_same f g [] same = refl
map_same f g (x ∷ xs) same =
    let first = same x (Contains-first x xs) in
    let rest = map_same f g xs (λ p among. same p (Contains-later x xs p among)) in
    λ i. first i ∷ rest i

module _ (t : Tables) (network : IsNetwork t) (given : Family) (H G : List Event) (over-H : IsFinalRun t given H)
    (over-G : IsFinalRun t given G) where
  less : HasMadeNoMore t H G
  less = made_no_more t network given G over-G H over-H.run

  more : HasMadeNoMore t G H
  more = made_no_more t network given H over-H G over-G.run

  said_alike : (p : ℕ) → p < length t.instances → talk_of H p ≡ talk_of G p
  said_alike p there = IsPrefix-antisym (talk_of H p) (talk_of G p) (less.said p there) (more.said p there)

  written_alike : (c : ℕ) → written_on H c ≡ written_on G c
  written_alike c = IsPrefix-antisym (written_on H c) (written_on G c) (less.written c) (more.written c)

  -- all was read from a sink that was not left
  sink_read : (X : List Event) → IsFinalRun t given X → (c : ℕ) → reader_of t c ≡ Sink → is_left X c ≡ false
      → read_on X c ≡ written_on X c
  sink_read X over c reader stays =
      let sink = sink-reader_of t c reader in
      elim (over.settled.sinks c (sink_there t c sink) sink) [
        | inl empty ↦ all_read t X over.run.legal c empty
        | inr left ↦ absurd (both_ways (is_left X c) stays left)
      ]

  read_alike : (c : ℕ) (reader : End) → reader_of t c ≡ reader → is_left H c ≡ false → is_left G c ≡ false
      → read_on H c ≡ read_on G c
  read_alike c (Process p) reader stays remains =
      IsPrefix-antisym (read_on H c) (read_on G c) (less.read c p reader) (more.read c p reader)
  read_alike c Sink reader stays remains =
      sink_read H over-H c reader stays ∙ written_alike c ∙ sym (sink_read G over-G c reader remains)
  read_alike c Source reader stays remains =
      elim (cases_lt c (length t.channels)) [
        | inl there ↦ absurd (reader_is_no_source t network c there reader)
        | inr past ↦
            read_on-outside t c past H over-H.run.legal ∙ sym (read_on-outside t c past G over-G.run.legal)
      ]

  pub end_alike : EndAlike t H G
  end_alike =
      record {
        said = said_alike;
        ended = λ p how. (less.ended p how, more.ended p how);
        waits = map_same (wait_of t H) (wait_of t G) (range_with_len 0 (length t.instances)) (λ p among.
            let high = (in_range 0 (length t.instances) p among).1 in
            let there : p < length t.instances = omega arith in
            same_wait t network given H G over-H.run over-G.run (λ q. q < length t.instances)
            (λ q. q < length t.instances) p (all_stand t network H over-H.run.legal over-H.settled p there)
            (all_stand t network G over-G.run.legal over-G.settled p there) (said_alike p there));
        written = written_alike;
        read = λ c. read_alike c (reader_of t c) refl;
        grown = λ c. let a = less.grown c in let b = more.grown c in omega arith;
      }
