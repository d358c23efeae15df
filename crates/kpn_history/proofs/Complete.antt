-- The journal of a complete channel is the least solution there. Each iterate on complete channels is a prefix of the
-- journals, by induction over the rounds: a finished process says on it at most what it said, since it has ended or
-- starves where it waits.
use Rattle.std.proofs.Common.{◌≡◌, ℕ, zero, suc, ◌<◌, max, true, ℤ, cond, eqb, eq-eqb, List, [], length, refl, sym, ap, subst, inl, inr, arith}
use Rattle.kpn_history.proofs.Common.{cases_Bool, cases_eq, ne_eqb, IsPrefix, put_at, End, Process, Source, Sink, Tables, channel_at, is_source, writer_of, IsNetwork, Family, IsFamilyPrefix, talk_on, written_by, round, iterate, IsPrefixOnSources, IsLeast, Event, talk_of, last_event, written_on, read_on, fed, is_closed, Legal, PutsNoMore, IsFinished, IsComplete, IsFedFrom, IsPrefix-trans, IsPrefix-same, IsPrefix-antisym, put_at-prefix, talk_on-grows, round-grows, iterate-grows, IsPrefixOnSources-refl, writer_of-source, Writes-writer_of}
use Rattle.kpn_history.proofs.Journals.{put_by_owner}
use Rattle.kpn_history.proofs.Below.{IsBelowIterate, round-source, fed-source}
use Rattle.kpn_history.proofs.Above.{SaysAll, SaysAll-legal, empty_wait, read_if_empty}
use Rattle.kpn_history.proofs.Kahn.{below_one_iterate, below_least}
use Rattle.kpn_history.proofs.Finished.{finished_cases, complete-process}

-- a family with another list at one channel
abbrev pub with_list : (c : ℕ) (xs : List ℤ) (X : Family) (d : ℕ) → List ℤ
with_list c xs X d = cond (eqb d c) xs (X d)

pub with_list-here : (c : ℕ) (xs : List ℤ) (X : Family) → with_list c xs X c ≡ xs
with_list-here c xs X = ap (λ b. cond b xs (X c)) (eq-eqb c c refl)

with_list-other : (c : ℕ) (xs : List ℤ) (X : Family) (d : ℕ) → (d ≡ c → ⊥) → with_list c xs X d ≡ X d
with_list-other c xs X d differ = ap (λ b. cond b xs (X d)) (ne_eqb d c differ)

-- a family is below another one with this list at one channel, if it is so there and elsewhere
pub below_with_list : (c : ℕ) (xs : List ℤ) (X Y : Family) → IsPrefix (X c) xs → IsFamilyPrefix X Y
    → IsFamilyPrefix X (with_list c xs Y)
below_with_list c xs X Y here below d =
    elim (cases_eq d c) [
      | inl same ↦
          subst (λ e. IsPrefix (X e) (with_list c xs Y e)) (sym same)
          (IsPrefix-trans (X c) xs (with_list c xs Y c) here (IsPrefix-same _ _ (sym (with_list-here c xs Y))))
      | inr differ ↦
          IsPrefix-trans (X d) (Y d) (with_list c xs Y d) (below d)
          (IsPrefix-same _ _ (sym (with_list-other c xs Y d differ)))
    ]

module _ (t : Tables) (network : IsNetwork t) (H : List Event) (says : SaysAll t H) (given : Family)
    (b : IsBelowIterate t given H) where
  -- the given list of a source is below its journal, and the writer is finished if it is a process
  pub record IsBounded (c : ℕ) : Type 0 where
    pub source : is_source (channel_at t c) ≡ true → IsPrefix (given c) (written_on H c)
    pub writer : (p : ℕ) → writer_of t c ≡ Process p → IsFinished t H p

  -- what a finished process says on lists that are below an iterate, and below the journal where it waits
  finished_says : (p : ℕ) → p < length t.instances → IsFinished t H p → (X : Family) (m : ℕ)
      → IsFamilyPrefix X (iterate t given m)
      → IsFamilyPrefix (written_on H) (iterate t given m)
      → ((c : ℕ) → IsComplete t H c → IsPrefix (X c) (written_on H c)) → (n : ℕ)
      → IsPrefix (talk_on t p n X) (talk_of H p)
  finished_says p there finished X m below above complete n =
      elim (finished_cases t H p finished) [
        | inl ended ↦
            IsPrefix-trans _ _ (talk_of H p)
            (talk_on-grows t p n n (omega arith) X (iterate t given m) below)
            ((says.ended p there ended).whole n (iterate t given m) reads)
        | inr w ↦
            let e = empty_wait t H (last_event H p) w.channel w.waits in
            let read = read_if_empty H says.spoken.in_order w.channel e.empty in
            let Y : Family = with_list w.channel (read_on H w.channel) (iterate t given m) in
            IsPrefix-trans _ _ (talk_of H p)
            (talk_on-grows t p n n (omega arith) X Y
            (below_with_list w.channel (read_on H w.channel) X (iterate t given m)
            (IsPrefix-trans (X w.channel) (written_on H w.channel) (read_on H w.channel)
            (complete w.channel w.complete)
            (IsPrefix-same _ _ (sym read)))
            below))
            ((says.starved p e.process w.channel there e.is).whole n Y
            (below_with_list w.channel (read_on H w.channel) (read_on H) (iterate t given m)
            (IsPrefix-same _ _ refl) reads)
            (with_list-here w.channel (read_on H w.channel) (iterate t given m)))
      ]
    where
      reads : IsFamilyPrefix (read_on H) (iterate t given m)
      reads c =
          IsPrefix-trans (read_on H c) (written_on H c) (iterate t given m c) (says.spoken.in_order c) (above c)

  -- the next round, if the last one is below the journals on complete channels
  next_below : (n k : ℕ) → ((c : ℕ) → IsComplete t H c → IsPrefix (round t given n k c) (written_on H c)) → (c : ℕ)
      → ((p : ℕ) → writer_of t c ≡ Process p → IsFinished t H p) → (writer : End) → writer_of t c ≡ writer
      → IsPrefix (written_by t n (round t given n k) c writer) (written_on H c)
  next_below n k complete c finished (Process p) w =
      let m = max (max n k) b.turns in
      IsPrefix-trans _ (put_at (talk_of H p) c) (written_on H c)
      (put_at-prefix (talk_on t p n (round t given n k)) (talk_of H p) c
      (finished_says p (Writes-writer_of t p c w).process (finished p w) (round t given n k) m
      (round-grows t given given (IsPrefixOnSources-refl t given) n m (omega arith) k m (omega arith))
      (λ d. IsPrefix-trans (written_on H d) (iterate t given b.turns d) (iterate t given m d) (b.below d)
      (iterate-grows t given b.turns m (omega arith) d))
      complete n))
      (IsPrefix-same _ _ (sym (put_by_owner t network c p w H says.spoken.own)))
  next_below n k complete c finished Source w = tt
  next_below n k complete c finished Sink w = tt

  -- each round is below the journals on channels whose writers are finished
  round_below : ((c : ℕ) → IsComplete t H c → IsBounded c) → (n k c : ℕ) → IsBounded c
      → IsPrefix (round t given n k c) (written_on H c)
  round_below bounded n zero c bound =
      elim (cases_Bool (is_source (channel_at t c))) [
        | inl source ↦
            IsPrefix-trans _ (given c) (written_on H c) (IsPrefix-same _ _ (round-source t given n 0 c source))
            (bound.source source)
        | inr other ↦
            IsPrefix-trans _ [] (written_on H c) (IsPrefix-same _ _ (ap (λ x. cond x (given c) []) other)) tt
      ]
  round_below bounded n (suc k) c bound =
      step
      (next_below n k (λ d complete. round_below bounded n k d (bounded d complete)) c bound.writer (writer_of t c)
      refl)
    where
      step : IsPrefix (written_by t n (round t given n k) c (writer_of t c)) (written_on H c)
          → IsPrefix (round t given n (suc k) c) (written_on H c)
      step below =
          elim (cases_Bool (is_source (channel_at t c))) [
            | inl source ↦
                IsPrefix-trans _ (given c) (written_on H c)
                (IsPrefix-same _ _ (round-source t given n (suc k) c source)) (bound.source source)
            | inr other ↦
                IsPrefix-trans _ (written_by t n (round t given n k) c (writer_of t c)) (written_on H c)
                (IsPrefix-same _ _
                (ap (λ x. cond x (given c) (written_by t n (round t given n k) c (writer_of t c))) other))
                below
          ]

  pub least_if_bounded : ((c : ℕ) → IsComplete t H c → IsBounded c) → (c : ℕ) → IsBounded c
      → IsLeast t given c (written_on H c)
  least_if_bounded bounded c bound =
      record {
        below = record { turns = b.turns; below = b.below c };
        above = λ n. round_below bounded n n c bound;
      }

  -- ---- complete channels

  -- a source that is complete is closed
  closed_if_complete : (c : ℕ) → is_source (channel_at t c) ≡ true → IsComplete t H c → is_closed H c ≡ true
  closed_if_complete c source complete =
      subst (PutsNoMore (IsFinished t H) H c) (writer_of-source t c source) complete

  pub complete_is_bounded : IsFedFrom t H given → (c : ℕ) → IsComplete t H c → IsBounded c
  complete_is_bounded f c complete =
      record {
        source =
            λ source.
            IsPrefix-same _ _ (sym (f.whole c source (closed_if_complete c source complete)));
        writer = λ p w. complete-process t H c p w complete;
      }

  pub least_where_complete : IsFedFrom t H given → (c : ℕ) → IsComplete t H c → IsLeast t given c (written_on H c)
  least_where_complete f c complete = least_if_bounded (complete_is_bounded f) c (complete_is_bounded f c complete)

module _ (t : Tables) (network : IsNetwork t) (H : List Event) (legal : Legal t H) where
  pub least_if_complete : (given : Family) → IsFedFrom t H given → (c : ℕ) → IsComplete t H c
      → IsLeast t given c (written_on H c)
  least_if_complete given f =
      least_where_complete t network H (SaysAll-legal t network H legal) given
      (below_one_iterate t network H legal given f.begun) f

  -- ---- each process is finished

  pub IsFedFrom-fed : IsFedFrom t H (fed t H)
  IsFedFrom-fed =
      record {
        begun = IsPrefixOnSources-refl t (fed t H);
        whole = λ c source closed. sym (fed-source t H c source);
      }

  pub least_if_all_finished : ((p : ℕ) → p < length t.instances → IsFinished t H p) → (c : ℕ)
      → IsLeast t (fed t H) c (written_on H c)
  least_if_all_finished finished c =
      let says = SaysAll-legal t network H legal in
      let b = below_one_iterate t network H legal (fed t H) IsFedFrom-fed.begun in
      least_if_bounded t network H says (fed t H) b (complete_is_bounded t network H says (fed t H) b IsFedFrom-fed) c
      (record {
        source = λ source. IsPrefix-same _ _ (fed-source t H c source);
        writer = λ p w. finished p (writer_there p w);
      })
    where
      writer_there : (p : ℕ) → writer_of t c ≡ Process p → p < length t.instances
      writer_there p w = let writes = Writes-writer_of t p c w in writes.process

-- ---- two histories

module _ (t : Tables) (network : IsNetwork t) (G H : List Event) (legal-G : Legal t G) (legal-H : Legal t H)
    (given : Family) (f : IsFedFrom t G given) where
  pub begins_complete : IsPrefixOnSources t (fed t H) given → (c : ℕ) → IsComplete t G c
      → IsPrefix (written_on H c) (written_on G c)
  begins_complete begun c complete =
      let b = below_least t network H legal-H given begun c in
      IsPrefix-trans (written_on H c) (iterate t given b.turns c) (written_on G c) b.below
      ((least_if_complete t network G legal-G given f c complete).above b.turns)

pub complete_same : (t : Tables) (network : IsNetwork t) (G H : List Event) → Legal t G → Legal t H
    → (given : Family) → IsFedFrom t G given → IsFedFrom t H given → (c : ℕ) → IsComplete t G c → IsComplete t H c
    → written_on G c ≡ written_on H c
complete_same t network G H legal-G legal-H given f e c complete-G complete-H =
    IsPrefix-antisym (written_on G c) (written_on H c)
    (begins_complete t network H G legal-H legal-G given e f.begun c complete-H)
    (begins_complete t network G H legal-G legal-H given f e.begun c complete-G)
