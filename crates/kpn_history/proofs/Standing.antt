-- Processes that stand still together: each of them rests, and waits for another of them or for what never comes. If a
-- history has made no more of them than such processes made, then with one more event it has not either.
use Rattle.kpn_history.proofs.Common.{◌≡◌, ℕ, zero, suc, ◌<◌, ◌≤◌, true, false, not, cond, eqb, List, [], ◌∷◌, ◌++◌, length, Option, Some, None, refl, sym, ap, ◌∙◌, subst, inl, inr, arith, length-append, cases_lt, cases_eq, eqb-true, both_ways, and_from, not-true, not_from_false, false_from_ne_true, le-leb, or_left, IsPrefix, got_at, put_at, End, Process, Source, Sink, Growth, Full, Tables, channel_at, capacity, grown_capacity, larger_capacity, writer_of, reader_of, IsNetwork, Family, Event, Put, WaitEmpty, WaitFull, Ended, Feed, talk_of, has_ended, written_in, written_on, read_on, unread_on, fed, is_close_of, is_closed, lives, reader_lives, after_growths, capacity_after, reaches, is_full, wait_of, Legal, PutsNoMore, IsFinished, IsComplete, growths_of, IsRunFrom, IsPrefix-trans, IsPrefix-same, IsPrefix-antisym, length_of_prefix, got_at-prefix, put_at-prefix, Writes, capacity_in_range, source-writer_of, writer_of-source, writer_of-Writes}
use Rattle.std.specs.Option.{option_map}
use Rattle.kpn_net.specs.declared.tables.Growth.TheVariants.{One, Double}
use Rattle.kpn_history.proofs.Events.{written_on-push, written_on-grows, written_on-same, read_on-same}
use Rattle.kpn_history.proofs.Legality.{Legal-before}
use Rattle.kpn_history.proofs.AfterEvent.{is_closed-next}
use Rattle.kpn_history.proofs.Ownership.{Owns-last}
use Rattle.kpn_history.proofs.Journals.{none_elsewhere, no_source, written_on-put, read_on-got, reads_begin_writes}
use Rattle.kpn_history.proofs.Below.{fed-source}
use Rattle.kpn_history.proofs.Above.{all_read}
use Rattle.kpn_history.proofs.Capacities.{SmallerBefore}
use Rattle.kpn_history.proofs.CompleteStays.{complete_stays}
use Rattle.kpn_history.proofs.OneMore.{KeepsConsistent-last, item_here, unread_length}
use Rattle.kpn_history.proofs.Stops.{is_filled}
use Rattle.kpn_history.proofs.WaitsAfter.{last_is_own}
use Rattle.kpn_history.proofs.Rests.{Rests, rest_waits, ends_last, ended_if_last, same_rest, IsBounded, says_within}

-- ---- capacities by growths

module _ (t : Tables) (n : ℕ) (within : n ≤ t.limit) where
  no_less : (times : ℕ) → after_growths t times n ≤ larger_capacity t (after_growths t times n)
  no_less times = by_growth t.growth refl
    where
      in_limit : Double ≡ t.growth → (k : ℕ) → after_growths t k n ≤ t.limit
      in_limit is zero = within
      in_limit is (suc k) =
          subst (λ growth. grown_capacity growth t.limit (after_growths t k n) ≤ t.limit) is (omega arith)

      by_growth : (growth : Growth) → growth ≡ t.growth
          → after_growths t times n ≤ grown_capacity growth t.limit (after_growths t times n)
      by_growth One is = omega arith
      by_growth Double is = let most = in_limit is times in omega arith

  after-grows : (k m : ℕ) → k ≤ m → after_growths t k n ≤ after_growths t m n
  after-grows k zero less =
      let same : zero ≡ k = omega arith in subst (λ x. after_growths t x n ≤ n) same (omega arith)
  after-grows k (suc m) less =
      elim (cases_lt k (suc m)) [
        | inl before ↦ let rest = after-grows k m (omega arith) in let last = no_less m in omega arith
        | inr here ↦
            let same : suc m ≡ k = omega arith in
            subst (λ x. after_growths t x n ≤ after_growths t (suc m) n) same (omega arith)
      ]

-- after no more growths a capacity is no larger
pub smaller_by_growths : (t : Tables) → IsNetwork t → (H G : List Event) (c : ℕ) → c < length t.channels
    → growths_of H c ≤ growths_of G c → (cap : ℕ) → capacity_after t G c ≡ Some cap → SmallerBefore t H c cap
smaller_by_growths t network H G c there fewer cap is = by_first (capacity (channel_at t c)) refl is
  where
    by_first : (o : Option ℕ) → capacity (channel_at t c) ≡ o
        → option_map (after_growths t (growths_of G c)) o ≡ Some cap → SmallerBefore t H c cap
    by_first None first e = absurd cc
    by_first (Some n) first e =
        let same : after_growths t (growths_of G c) n ≡ cap = cc in
        let within = (capacity_in_range t network c n there first).within in
        record {
          before = after_growths t (growths_of H c) n;
          is = ap (option_map (after_growths t (growths_of H c))) first;
          at_most =
              subst (λ m. after_growths t (growths_of H c) n ≤ m) same
              (after-grows t n within (growths_of H c) (growths_of G c) fewer);
        }

-- ---- runs

module _ (t : Tables) (network : IsNetwork t) (given : Family) where
  -- a run without its last event
  pub run_before : (B : List Event) (e : Event) → IsRunFrom t given (B ++ e ∷ []) → IsRunFrom t given B
  run_before B e run =
      record {
        legal = Legal-before t B e run.legal;
        fed = record {
          begun = record {
            each = λ c source.
                IsPrefix-trans (fed t B c) (written_on B c) (given c)
                (IsPrefix-same _ _ (fed-source t B c source))
                (IsPrefix-trans (written_on B c) (written_on (B ++ e ∷ []) c) (given c) (written_on-grows B e c)
                (IsPrefix-trans (written_on (B ++ e ∷ []) c) (fed t (B ++ e ∷ []) c) (given c)
                (IsPrefix-same _ _ (sym (fed-source t (B ++ e ∷ []) c source))) (run.fed.begun.each c source)));
          };
          whole = λ c source closed.
              let complete : IsComplete t B c =
              subst (PutsNoMore (IsFinished t B) B c) (sym (writer_of-source t c source)) closed in
              sym (complete_stays t network B (e ∷ []) run.legal c complete).written
              ∙ run.fed.whole c source
              (is_closed-next B e c ∙ or_left (is_closed B c) (is_close_of c e) closed);
        };
      }

-- ---- processes that stand still

-- what one of these processes waits for is up to one of them, or is no more to come
abbrev pub AwaitsAmong : Tables → List Event → (Z : ℕ → Type 0) → Event → Type 0
AwaitsAmong t H Z (WaitEmpty p c) = PutsNoMore Z H c (writer_of t c)
AwaitsAmong t H Z (WaitFull p c) = (q : ℕ) × ((reader_of t c ≡ Process q) × Z q)
AwaitsAmong t H Z event = Unit {0}

pub record StandsAmong (t : Tables) (H : List Event) (Z : ℕ → Type 0) (p : ℕ) : Type 0 where
  pub there : p < length t.instances
  pub event : Event
  pub rests : Rests t H p event
  pub awaits : AwaitsAmong t H Z event

-- each of these processes stands still
abbrev pub Stand : Tables → List Event → (Z : ℕ → Type 0) → Type 0
Stand t H Z = (p : ℕ) → Z p → StandsAmong t H Z p

-- the first history has made no more of these processes than the second one, in which they stand still
pub record AreWithin (t : Tables) (H G : List Event) (Z : ℕ → Type 0) : Type 0 where
  pub said : (p : ℕ) → Z p → IsPrefix (talk_of H p) (talk_of G p)
  pub ended : (p : ℕ) → Z p → has_ended H p ≡ true → has_ended G p ≡ true
  pub grown : (p c : ℕ) → Z p → wait_of t G p ≡ Full c → growths_of H c ≤ growths_of G c

-- what is read by an event was written before it
read_late : (t : Tables) (B : List Event) (e : Event) → Legal t (B ++ e ∷ []) → (c : ℕ)
    → IsPrefix (read_on (B ++ e ∷ []) c) (written_on B c)
read_late t B (Put p d v) legal c =
    IsPrefix-trans _ (read_on B c) (written_on B c) (IsPrefix-same _ _ (read_on-same B (Put p d v) c refl))
    (reads_begin_writes t B (Legal-before t B (Put p d v) legal) c)
read_late t B (Feed d v) legal c =
    IsPrefix-trans _ (read_on B c) (written_on B c) (IsPrefix-same _ _ (read_on-same B (Feed d v) c refl))
    (reads_begin_writes t B (Legal-before t B (Feed d v) legal) c)
read_late t B e legal c =
    IsPrefix-trans _ (written_on (B ++ e ∷ []) c) (written_on B c) (reads_begin_writes t (B ++ e ∷ []) legal c)
    (IsPrefix-same _ _ (written_on-same B e c refl))

-- ---- a history that has made no more

module _ (t : Tables) (network : IsNetwork t) (given : Family) (G : List Event) (run : IsRunFrom t given G)
    (Z : ℕ → Type 0) (B : List Event) (before : IsRunFrom t given B) (within : AreWithin t B G Z) where
  -- what was written where one of them waits for an item
  pub written_there : (c : ℕ) (writer : End) → writer_of t c ≡ writer → PutsNoMore Z G c writer
      → IsPrefix (written_on B c) (written_on G c)
  written_there c (Process q) w no_more =
      IsPrefix-trans (written_on B c) (put_at (talk_of B q) c) (written_on G c)
      (IsPrefix-same _ _ (written_on-put t network c q w B before.legal))
      (IsPrefix-trans (put_at (talk_of B q) c) (put_at (talk_of G q) c) (written_on G c)
      (put_at-prefix (talk_of B q) (talk_of G q) c (within.said q no_more))
      (IsPrefix-same _ _ (sym (written_on-put t network c q w G run.legal))))
  written_there c Source w no_more =
      let source = source-writer_of t c w in
      IsPrefix-trans (written_on B c) (fed t B c) (written_on G c)
      (IsPrefix-same _ _ (sym (fed-source t B c source)))
      (IsPrefix-trans (fed t B c) (given c) (written_on G c) (before.fed.begun.each c source)
      (IsPrefix-same _ _ (sym (run.fed.whole c source no_more))))
  written_there c Sink w no_more = absurd no_more

  -- a channel that is full where one of them waits is full with as many items
  pub full_too : (p c q : ℕ) → Z p → wait_of t G p ≡ Full c → is_full t G c ≡ true → reader_of t c ≡ Process q → Z q
      → length (written_on G c) ≤ length (written_on B c) → is_full t B c ≡ true
  full_too p c q of_p waits full reader of_q as_many =
      let f = is_filled t network G run.legal c full in
      let alive : has_ended G q ≡ false =
      not-true _ (subst (λ end. lives G c end ≡ true) reader f.lives) in
      let too : not (has_ended B q) ≡ true =
      not_from_false _
      (false_from_ne_true (has_ended B q) (λ ended. both_ways _ alive (within.ended q of_q ended))) in
      let small = smaller_by_growths t network B G c f.there (within.grown p c of_p waits) f.cap f.is in
      let reads =
      length_of_prefix (got_at (talk_of B q) c) (got_at (talk_of G q) c)
      (got_at-prefix (talk_of B q) (talk_of G q) c (within.said q of_q)) in
      let read_B = ap length (read_on-got t network c q reader B before.legal) in
      let read_G = ap length (read_on-got t network c q reader G run.legal) in
      let unread_B = unread_length B c in
      let unread_G = unread_length G c in
      let at_most = small.at_most in
      let unread = f.unread in
      and_from (reader_lives t B c) (reaches (capacity_after t B c) (length (unread_on B c)))
      (subst (λ end. lives B c end ≡ true) (sym reader) too)
      (ap (λ o. reaches o (length (unread_on B c))) small.is
      ∙ le-leb small.before (length (unread_on B c)) (omega arith))

-- ---- one more event

module _ (t : Tables) (network : IsNetwork t) (given : Family) (G : List Event) (run : IsRunFrom t given G)
    (Z : ℕ → Type 0) (B : List Event) (e : Event) (more : IsRunFrom t given (B ++ e ∷ []))
    (within : AreWithin t B G Z) where
  before : IsRunFrom t given B
  before = run_before t network given B e more

  -- so nothing more is written there
  written_full : (p c q : ℕ) → Z p → writer_of t c ≡ Process p → wait_of t G p ≡ Full c → is_full t G c ≡ true
      → reader_of t c ≡ Process q → Z q → length (written_on (B ++ e ∷ []) c) ≤ length (written_on G c)
  written_full p c q of_p writer waits full reader of_q = by_event e more.legal
    where
      so_far : length (written_on B c) ≤ length (written_on G c)
      so_far = length_of_prefix (written_on B c) (written_on G c) (written_there t network given G run Z B before within c (Process p) writer of_p)

      nothing : (f : Event) → written_in c f ≡ [] → length (written_on (B ++ f ∷ []) c) ≤ length (written_on G c)
      nothing f none = let same = ap length (written_on-same B f c none) in let bound = so_far in omega arith

      by_event : (f : Event) → Legal t (B ++ f ∷ [])
          → length (written_on (B ++ f ∷ []) c) ≤ length (written_on G c)
      by_event (Put r d v) legal =
          elim (cases_eq d c) [
            | inl here ↦
                let room : is_full t B c ≡ false =
                subst (λ x. is_full t B x ≡ false) here (KeepsConsistent-last t B (Put r d v) legal).0 in
                elim (cases_lt (length (written_on B c)) (length (written_on G c))) [
                  | inl fewer ↦
                      let one = ap length (ap (λ x. cond (eqb x c) (v ∷ []) []) here ∙ item_here c v) in
                      let all = ap length (written_on-push B (Put r d v) c)
                      ∙ length-append (written_on B c) (written_in c (Put r d v)) in
                      omega arith
                  | inr as_many ↦
                      absurd
                      (both_ways _ room
                      (full_too t network given G run Z B before within p c q of_p waits full reader of_q as_many))
                ]
            | inr elsewhere ↦ nothing (Put r d v) (none_elsewhere d c v elsewhere)
          ]
      by_event (Feed d v) legal =
          nothing (Feed d v)
          (none_elsewhere d c v (no_source t c d p writer (Owns-last t network B (Feed d v) legal)))
      by_event f legal = nothing f refl

  bounded : (p : ℕ) → Z p → (s : StandsAmong t G Z p) → IsBounded (B ++ e ∷ []) G s.event
  bounded p of_p s = by_event s.event s.rests s.awaits
    where
      by_event : (f : Event) → Rests t G p f → AwaitsAmong t G Z f → IsBounded (B ++ e ∷ []) G f
      by_event (WaitEmpty r c) rests awaits =
          IsPrefix-trans (read_on (B ++ e ∷ []) c) (written_on B c) (read_on G c) (read_late t B e more.legal c)
          (IsPrefix-trans (written_on B c) (written_on G c) (read_on G c)
          (written_there t network given G run Z B before within c (writer_of t c) refl awaits)
          (IsPrefix-same _ _ (sym (all_read t G run.legal c rests.is))))
      by_event (WaitFull r c) rests awaits =
          let own = last_is_own t network p G run.legal (WaitFull r c) rests.last in
          let writer = writer_of-Writes t network p c (own_writes own.its own.owns) in
          written_full p c awaits.0 of_p writer (rest_waits t G p (WaitFull r c) rests) rests.is awaits.1.0
          awaits.1.1
        where
          own_writes : eqb r p ≡ true → Writes t r c → Writes t p c
          own_writes its owns = subst (λ x. Writes t x c) (eqb-true r p its) owns
      by_event event rests awaits = tt

  -- so one of them that stands still has said no more
  pub says_no_more_there : (p : ℕ) → Z p → StandsAmong t G Z p → IsPrefix (talk_of (B ++ e ∷ []) p) (talk_of G p)
  says_no_more_there p of_p s =
      says_within t network given (B ++ e ∷ []) G more.legal run.legal more.fed.begun run.fed.begun p s.there s.event
      s.rests (bounded p of_p s)

module _ (t : Tables) (network : IsNetwork t) (given : Family) (G : List Event) (run : IsRunFrom t given G)
    (Z : ℕ → Type 0) (stand : Stand t G Z) (B : List Event) (e : Event)
    (more : IsRunFrom t given (B ++ e ∷ [])) (within : AreWithin t B G Z) where
  pub says_no_more : (p : ℕ) → Z p → IsPrefix (talk_of (B ++ e ∷ []) p) (talk_of G p)
  says_no_more p of_p = says_no_more_there t network given G run Z B e more within p of_p (stand p of_p)

  pub ends_no_more : (p : ℕ) → Z p → has_ended (B ++ e ∷ []) p ≡ true → has_ended G p ≡ true
  ends_no_more p of_p ended =
      let s = stand p of_p in
      let last = ends_last t p (B ++ e ∷ []) more.legal ended in
      let rests : Rests t (B ++ e ∷ []) p (Ended p last.0) = record { last = last.1; is = tt } in
      let same : talk_of G p ≡ talk_of (B ++ e ∷ []) p =
      IsPrefix-antisym (talk_of G p) (talk_of (B ++ e ∷ []) p)
      (says_within t network given G (B ++ e ∷ []) run.legal more.legal run.fed.begun more.fed.begun p s.there
      (Ended p last.0) rests tt)
      (says_no_more p of_p) in
      ended_if_last t p G run.legal p last.0
      (s.rests.last
      ∙ ap Some
      (same_rest t network G (B ++ e ∷ []) run.legal more.legal p s.there same s.event (Ended p last.0) s.rests
      rests))
