-- In a quiet history each process has said all that it can say on the journals, so the journals contain what each
-- process puts on them.
use Rattle.kpn_history.proofs.Common.{◌≡◌, ℕ, ◌<◌, Bool, true, false, ◌||◌, cond, List, [], ◌∷◌, ◌++◌, length, Option, Some, None, refl, sym, ap, ◌∙◌, subst, inl, inr, arith, length-drop, cases_Bool, eqb-true, false≢true, or_cases, IsPrefix, put_at, End, Process, Source, Sink, Nobody, Empty, Full, Tables, writer_of, IsNetwork, Family, IsFamilyPrefix, talk_on, written_by, IsClosed, How, Done, Overflow, ZeroDivisor, Index, Shift, Event, WaitEmpty, WaitFull, Ended, is_of, last_event, talk_of, is_end_of, has_ended, written_on, read_on, unread_on, fed, is_empty, is_full, wait_of_last, Legal, ending_of, IsQuiet, IsPrefix-trans, IsPrefix-same, same_from_prefix, put_at-prefix, Reads, reader_of-Reads, Writes-writer_of}
use Rattle.kpn_history.proofs.Events.{Some-event, last_event-own, last_event-other, talk_of-grows, has_ended-push, read_on-grows, read_on-same}
use Rattle.kpn_history.proofs.Legality.{Legal-last, by_events}
use Rattle.kpn_history.proofs.Running.{IsLast, talk_settled-last, talk_settled-starved}
use Rattle.kpn_history.proofs.Ownership.{Owns-last}
use Rattle.kpn_history.proofs.Journals.{put_by_owner, read_in-other, reads_begin_writes, IsSpoken, IsSpoken-legal}
use Rattle.kpn_history.proofs.Below.{fed-source}

-- ---- a process that has ended says no more

-- on all lists that begin with what was read, a process says no more than it said
pub record HasSaidAll (t : Tables) (H : List Event) (p : ℕ) : Type 0 where
  pub whole : (n : ℕ) (Y : Family) → IsFamilyPrefix (read_on H) Y → IsPrefix (talk_on t p n Y) (talk_of H p)

HasSaidAll-more : (t : Tables) (B : List Event) (e : Event) (p : ℕ) → HasSaidAll t B p → HasSaidAll t (B ++ e ∷ []) p
HasSaidAll-more t B e p h =
    record {
      whole = λ n Y longer.
          IsPrefix-trans (talk_on t p n Y) (talk_of B p) (talk_of (B ++ e ∷ []) p)
          (h.whole n Y
          (λ c. IsPrefix-trans (read_on B c) (read_on (B ++ e ∷ []) c) (Y c) (read_on-grows B e c) (longer c)))
          (talk_of-grows B e p);
    }

pub IsLast-ending_of : (how : How) → IsLast (ending_of how)
IsLast-ending_of Done = tt
IsLast-ending_of Overflow = tt
IsLast-ending_of ZeroDivisor = tt
IsLast-ending_of Index = tt
IsLast-ending_of Shift = tt

HasSaidAll-ends : (t : Tables) (B : List Event) (p : ℕ) (how : How) → Legal t (B ++ Ended p how ∷ [])
    → HasSaidAll t B p
HasSaidAll-ends t B p how legal =
    let f = Legal-last t B (Ended p how) legal in
    record {
      whole = λ n Y longer.
          talk_settled-last t p (read_on B) Y longer (ending_of how) (talk_of B p) (IsLast-ending_of how) f.due.1 n;
    }

at_its_end : (t : Tables) (B : List Event) (e : Event) → Legal t (B ++ e ∷ []) → (p : ℕ) → is_end_of p e ≡ true
    → HasSaidAll t B p
at_its_end t B (Ended q how) legal p is = subst (HasSaidAll t B) (eqb-true q p is) (HasSaidAll-ends t B q how legal)
at_its_end t B event legal p is = absurd (false≢true is)

pub HasSaidAll-ended : (t : Tables) (p : ℕ) (H : List Event) → Legal t H → has_ended H p ≡ true → HasSaidAll t H p
HasSaidAll-ended t p =
    by_events t (λ H. has_ended H p ≡ true → HasSaidAll t H p)
    (λ is. absurd (false≢true is))
    (λ B e legal h is.
    HasSaidAll-more t B e p
    (elim (or_cases (has_ended B p) (is_end_of p e || false) (sym (has_ended-push B e p) ∙ is)) [
      | inl before ↦ h before
      | inr now ↦
          elim (or_cases (is_end_of p e) false now) [
            | inl ends ↦ at_its_end t B e legal p ends
            | inr clash ↦ absurd (false≢true clash)
          ]
    ]))

-- ---- a process that waits on an empty channel says no more until items come there

pub record IsStarved (t : Tables) (H : List Event) (p c : ℕ) : Type 0 where
  pub reads : Reads t p c
  pub whole : (n : ℕ) (Y : Family) → IsFamilyPrefix (read_on H) Y → Y c ≡ read_on H c
      → IsPrefix (talk_on t p n Y) (talk_of H p)

-- after an event of others
IsStarved-other : (t : Tables) → IsNetwork t → (B : List Event) (e : Event) → Legal t (B ++ e ∷ []) → (p c : ℕ)
    → is_of p e ≡ false → IsStarved t B p c → IsStarved t (B ++ e ∷ []) p c
IsStarved-other t network B e legal p c other h =
    let reader = reader_of-Reads t network p c h.reads in
    let none = read_in-other t network c p reader e (Owns-last t network B e legal) other in
    record {
      reads = h.reads;
      whole = λ n Y longer same.
          IsPrefix-trans (talk_on t p n Y) (talk_of B p) (talk_of (B ++ e ∷ []) p)
          (h.whole n Y
          (λ d. IsPrefix-trans (read_on B d) (read_on (B ++ e ∷ []) d) (Y d) (read_on-grows B e d) (longer d))
          (same ∙ read_on-same B e c none))
          (talk_of-grows B e p);
    }

-- after its wait
IsStarved-waits : (t : Tables) → IsNetwork t → (B : List Event) (p c : ℕ) → Legal t (B ++ WaitEmpty p c ∷ [])
    → IsStarved t (B ++ WaitEmpty p c ∷ []) p c
IsStarved-waits t network B p c legal =
    let after = B ++ WaitEmpty p c ∷ [] in
    let f = Legal-last t B (WaitEmpty p c) legal in
    record {
      reads = Owns-last t network B (WaitEmpty p c) legal;
      whole = λ n Y longer same.
          IsPrefix-trans (talk_on t p n Y) (talk_of B p) (talk_of after p)
          (talk_settled-starved t network p f.numbers.0 (read_on B) Y
          (λ d. IsPrefix-trans (read_on B d) (read_on after d) (Y d) (read_on-grows B (WaitEmpty p c) d) (longer d))
          c (same ∙ read_on-same B (WaitEmpty p c) c refl) (talk_of B p) f.due.1.starved n)
          (talk_of-grows B (WaitEmpty p c) p);
    }

own_wait : (t : Tables) → IsNetwork t → (B : List Event) (e : Event) → Legal t (B ++ e ∷ []) → (p q c : ℕ)
    → is_of p e ≡ true → e ≡ WaitEmpty q c → IsStarved t (B ++ e ∷ []) p c
own_wait t network B e legal p q c own is =
    let who : q ≡ p = eqb-true q p (subst (λ x. is_of p x ≡ true) is own) in
    let same : e ≡ WaitEmpty p c = is ∙ ap (λ x. WaitEmpty x c) who in
    subst (λ x. IsStarved t (B ++ x ∷ []) p c) (sym same)
    (IsStarved-waits t network B p c (subst (λ x. Legal t (B ++ x ∷ [])) same legal))

pub IsStarved-last : (t : Tables) → IsNetwork t → (p : ℕ) (H : List Event) → Legal t H → (q c : ℕ)
    → last_event H p ≡ Some (WaitEmpty q c) → IsStarved t H p c
IsStarved-last t network p =
    by_events t (λ H. (q c : ℕ) → last_event H p ≡ Some (WaitEmpty q c) → IsStarved t H p c)
    (λ q c is. absurd cc)
    (λ B e legal h q c is. elim (cases_Bool (is_of p e)) [
      | inl own ↦
          own_wait t network B e legal p q c own
          (Some-event e (WaitEmpty q c) (sym (last_event-own B e p own) ∙ is))
      | inr other ↦
          IsStarved-other t network B e legal p c other (h q c (sym (last_event-other B e p other) ∙ is))
    ])

-- ---- what a wait on an empty channel is

pub record EmptyWait (H : List Event) (last : Option Event) (c : ℕ) : Type 0 where
  pub process : ℕ
  pub is : last ≡ Some (WaitEmpty process c)
  pub empty : is_empty H c ≡ true

empty_if : (b : Bool) (d c : ℕ) → cond b (Empty d) Nobody ≡ Empty c → (b ≡ true) × (d ≡ c)
empty_if true d c e = (refl, cc)
empty_if false d c e = absurd cc

full_if : (b : Bool) (d c : ℕ) → cond b (Full d) Nobody ≡ Empty c → ⊥
full_if true d c e = absurd cc
full_if false d c e = absurd cc

pub empty_wait : (t : Tables) (H : List Event) (last : Option Event) (c : ℕ) → wait_of_last t H last ≡ Empty c
    → EmptyWait H last c
empty_wait t H None c e = absurd cc
empty_wait t H (Some (WaitEmpty q d)) c e =
    let r = empty_if (is_empty H d) d c e in
    record {
      process = q;
      is = ap (λ x. Some (WaitEmpty q x)) r.1;
      empty = subst (λ x. is_empty H x ≡ true) r.1 r.0;
    }
empty_wait t H (Some (WaitFull q d)) c e = absurd (full_if (is_full t H d) d c e)
empty_wait t H (Some event) c e = absurd cc

-- on an empty channel all was read
pub read_if_empty : (H : List Event) → IsFamilyPrefix (read_on H) (written_on H) → (c : ℕ) → is_empty H c ≡ true
    → read_on H c ≡ written_on H c
read_if_empty H in_order c empty =
    let none : length (unread_on H c) ≡ 0 = eqb-true _ _ empty in
    let rest = length-drop (length (read_on H c)) (written_on H c) in
    same_from_prefix (read_on H c) (written_on H c) (in_order c) (omega arith)

pub all_read : (t : Tables) (H : List Event) → Legal t H → (c : ℕ) → is_empty H c ≡ true
    → read_on H c ≡ written_on H c
all_read t H legal = read_if_empty H (reads_begin_writes t H legal)

-- ---- lists of events in which each process has said all that it can say

-- a process that has ended says no more, and one whose last event is a wait on an empty channel says no more until
-- items come there
pub record SaysAll (t : Tables) (H : List Event) : Type 0 where
  pub spoken : IsSpoken t H
  pub ended : (p : ℕ) → p < length t.instances → has_ended H p ≡ true → HasSaidAll t H p
  pub starved : (p q c : ℕ) → p < length t.instances → last_event H p ≡ Some (WaitEmpty q c) → IsStarved t H p c

pub SaysAll-legal : (t : Tables) → IsNetwork t → (H : List Event) → Legal t H → SaysAll t H
SaysAll-legal t network H legal =
    record {
      spoken = IsSpoken-legal t network H legal;
      ended = λ p below. HasSaidAll-ended t p H legal;
      starved = λ p q c below. IsStarved-last t network p H legal q c;
    }

module _ (t : Tables) (network : IsNetwork t) (H : List Event) (says : SaysAll t H) where
  -- on the journals of a quiet one each process says no more than it said
  said_all : IsQuiet t H → (p : ℕ) → p < length t.instances → (n : ℕ)
      → IsPrefix (talk_on t p n (written_on H)) (talk_of H p)
  said_all quiet p below n =
      elim (quiet.each p below) [
        | inl ended ↦ (says.ended p below ended).whole n (written_on H) says.spoken.in_order
        | inr waits ↦
            let w = empty_wait t H (last_event H p) waits.channel waits.blocked in
            (says.starved p w.process waits.channel below w.is).whole n (written_on H) says.spoken.in_order
            (sym (read_if_empty H says.spoken.in_order waits.channel w.empty))
      ]

  pub IsClosed-quiet : IsQuiet t H → IsClosed t (fed t H) (written_on H)
  IsClosed-quiet quiet =
      record {
        fed = λ c source. sym (fed-source t H c source);
        contains = λ n c other. by_writer n c (writer_of t c) refl;
      }
    where
      by_writer : (n c : ℕ) (end : End) → writer_of t c ≡ end
          → IsPrefix (written_by t n (written_on H) c end) (written_on H c)
      by_writer n c (Process p) w =
          IsPrefix-trans _ (put_at (talk_of H p) c) (written_on H c)
          (put_at-prefix (talk_on t p n (written_on H)) (talk_of H p) c
          (said_all quiet p (Writes-writer_of t p c w).process n))
          (IsPrefix-same _ _ (sym (put_by_owner t network c p w H says.spoken.own)))
      by_writer n c Source w = tt
      by_writer n c Sink w = tt
