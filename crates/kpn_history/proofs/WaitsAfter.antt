-- What each process is blocked on after one more event of a legal history. Only a wait of its own blocks a process
-- again: nobody else reads the channel that it waits on as empty, or writes the one that it waits on as full.
use Rattle.std.proofs.Common.{◌≡◌, ℕ, Bool, true, false, cond, ◌&&◌, ◌||◌, eqb, eq-eqb, List, [], ◌∷◌, ◌++◌, length, Option, Some, None, refl, sym, ap, ◌∙◌, subst, inl, inr, arith, drop}
use Rattle.kpn_history.proofs.Common.{cases_Bool, both_ways, false_from_ne_true, and_parts, and_from, or_cases, cond_both, eqb-true, leb-true, le-leb, false≢true, Wait, Nobody, Empty, Full, Process, Tables, reader_of, writer_of, IsNetwork, Event, Get, Put, WaitEmpty, WaitFull, Ended, Feed, is_of, last_event, is_end_of, has_ended, written_in, read_in, written_on, read_on, unread_on, is_growth_of, reader_lives, capacity_after, reaches, is_empty, is_full, lasting_wait, wait_of_last, wait_of, wait_made, wait_kept, wait_after, MayFollow, Legal, takes_reader, reader_of-Reads, writer_of-Writes}
use Rattle.kpn_history.proofs.Events.{Some-event, last_event-own, last_event-other, has_ended-push, written_on-same, read_on-same}
use Rattle.kpn_history.proofs.Legality.{Legal-before, Legal-last, by_events}
use Rattle.kpn_history.proofs.Ownership.{Owns, Owns-last}
use Rattle.kpn_history.proofs.Journals.{none_elsewhere, writer_is, no_source, read_in-other}
use Rattle.kpn_history.proofs.AfterEvent.{keeps_reader, reader_lives-kept}
use Rattle.kpn_history.proofs.Capacities.{capacity_after-same, smaller_before}
use Rattle.kpn_history.proofs.OneMore.{reader_lives-before, unread_length, unread_length-push}

-- ---- the last event of a process

-- an event of this process, on a channel of its own
pub record IsOwnEvent (t : Tables) (p : ℕ) (e : Event) : Type 0 where
  pub its : is_of p e ≡ true
  pub owns : Owns t e

pub last_is_own : (t : Tables) → IsNetwork t → (p : ℕ) (H : List Event) → Legal t H → (f : Event)
    → last_event H p ≡ Some f → IsOwnEvent t p f
last_is_own t network p =
    by_events t (λ H. (f : Event) → last_event H p ≡ Some f → IsOwnEvent t p f)
    (λ f is. absurd cc)
    (λ B e legal h f is. elim (cases_Bool (is_of p e)) [
      | inl own ↦
          let same = Some-event e f (sym (last_event-own B e p own) ∙ is) in
          record {
            its = subst (λ x. is_of p x ≡ true) same own;
            owns = subst (Owns t) same (Owns-last t network B e legal);
          }
      | inr other ↦ h f (sym (last_event-other B e p other) ∙ is)
    ])

-- ---- a channel after an event of others

-- an event of others writes nothing on the channel of a process
pub written_in-other : (t : Tables) → IsNetwork t → (c p : ℕ) → writer_of t c ≡ Process p → (e : Event) → Owns t e
    → is_of p e ≡ false → written_in c e ≡ []
written_in-other t network c p w (Put q d v) o other =
    none_elsewhere d c v (λ e. both_ways (eqb q p) other (eq-eqb q p (writer_is t network c d p q w o e)))
written_in-other t network c p w (Feed d v) o other = none_elsewhere d c v (no_source t c d p w o)
written_in-other t network c p w event o other = refl

-- an event that neither writes on a channel nor reads from it leaves what is unread there as it is
pub unread_on-same : (B : List Event) (e : Event) (c : ℕ) → written_in c e ≡ [] → read_in c e ≡ []
    → unread_on (B ++ e ∷ []) c ≡ unread_on B c
unread_on-same B e c writes reads =
    ap (λ xs. drop (length xs) (written_on (B ++ e ∷ []) c)) (read_on-same B e c reads)
    ∙ ap (drop (length (read_on B c))) (written_on-same B e c writes)

pub is_empty-same : (B : List Event) (e : Event) (c : ℕ) → written_in c e ≡ [] → read_in c e ≡ []
    → is_empty (B ++ e ∷ []) c ≡ is_empty B c
is_empty-same B e c writes reads = ap (λ xs. eqb (length xs) 0) (unread_on-same B e c writes reads)

-- nor does it change whether the channel is full, if besides it neither grows it nor takes its reader away
pub is_full-same : (t : Tables) (B : List Event) (e : Event) (c : ℕ) → written_in c e ≡ [] → read_in c e ≡ []
    → is_growth_of c e ≡ false → takes_reader t c e ≡ false → is_full t (B ++ e ∷ []) c ≡ is_full t B c
is_full-same t B e c writes reads grows stays =
    ap (λ b. b && reaches (capacity_after t (B ++ e ∷ []) c) (length (unread_on (B ++ e ∷ []) c)))
    (reader_lives-kept t B e c stays)
    ∙ ap (λ o. reader_lives t B c && reaches o (length (unread_on (B ++ e ∷ []) c)))
    (capacity_after-same t B e c grows)
    ∙ ap (λ xs. reader_lives t B c && reaches (capacity_after t B c) (length xs)) (unread_on-same B e c writes reads)

-- if nothing is read, what is empty after was empty before
empty_before : (B : List Event) (e : Event) (c : ℕ) → read_in c e ≡ [] → is_empty (B ++ e ∷ []) c ≡ true
    → is_empty B c ≡ true
empty_before B e c none empty =
    let nothing : length (unread_on (B ++ e ∷ []) c) ≡ 0 = eqb-true _ _ empty in
    let before = unread_length B c in
    let after = unread_length-push B e c in
    let unread = ap length none in
    eq-eqb (length (unread_on B c)) 0 (omega arith)

-- what reaches the capacity after also reached it before, if nothing is written
reached_before : (t : Tables) (B : List Event) (e : Event) → MayFollow t B e → (c : ℕ) → written_in c e ≡ []
    → reaches (capacity_after t (B ++ e ∷ []) c) (length (unread_on (B ++ e ∷ []) c)) ≡ true
    → reaches (capacity_after t B c) (length (unread_on B c)) ≡ true
reached_before t B e follows c none = by_capacity (capacity_after t (B ++ e ∷ []) c) refl
  where
    by_capacity : (o : Option ℕ) → capacity_after t (B ++ e ∷ []) c ≡ o
        → reaches o (length (unread_on (B ++ e ∷ []) c)) ≡ true
        → reaches (capacity_after t B c) (length (unread_on B c)) ≡ true
    by_capacity None is full = absurd (false≢true full)
    by_capacity (Some cap) is full =
        let s = smaller_before t B e follows c cap is in
        let at_most = s.at_most in
        let within = leb-true cap (length (unread_on (B ++ e ∷ []) c)) full in
        let before = unread_length B c in
        let after = unread_length-push B e c in
        let nothing = ap length none in
        ap (λ o. reaches o (length (unread_on B c))) s.is
        ∙ le-leb s.before (length (unread_on B c)) (omega arith)

full_before : (t : Tables) (B : List Event) (e : Event) → MayFollow t B e → (c : ℕ) → written_in c e ≡ []
    → is_full t (B ++ e ∷ []) c ≡ true → is_full t B c ≡ true
full_before t B e follows c none full =
    let both =
    and_parts (reader_lives t (B ++ e ∷ []) c)
    (reaches (capacity_after t (B ++ e ∷ []) c) (length (unread_on (B ++ e ∷ []) c))) full in
    and_from (reader_lives t B c) (reaches (capacity_after t B c) (length (unread_on B c)))
    (reader_lives-before t B e c both.0) (reached_before t B e follows c none both.1)

-- ---- after an event of its own

-- a wait leaves its channel as it is
own_empty : (B : List Event) (p c : ℕ) → is_empty B c ≡ true → is_empty (B ++ WaitEmpty p c ∷ []) c ≡ true
own_empty B p c empty = is_empty-same B (WaitEmpty p c) c refl refl ∙ empty

own_full : (t : Tables) (B : List Event) (p c : ℕ) → is_full t B c ≡ true
    → is_full t (B ++ WaitFull p c ∷ []) c ≡ true
own_full t B p c full =
    is_full-same t B (WaitFull p c) c refl refl refl (keeps_reader t c (WaitFull p c) (λ q. refl) refl) ∙ full

wait_of_own : (t : Tables) (B : List Event) (e : Event) → Legal t (B ++ e ∷ [])
    → lasting_wait t (B ++ e ∷ []) e ≡ wait_made e
wait_of_own t B (WaitEmpty p c) legal =
    ap (λ b. cond b (Empty c) Nobody) (own_empty B p c (Legal-last t B (WaitEmpty p c) legal).due.1.empty)
wait_of_own t B (WaitFull p c) legal =
    ap (λ b. cond b (Full c) Nobody) (own_full t B p c (Legal-last t B (WaitFull p c) legal).due.1.full)
wait_of_own t B event legal = refl

-- ---- after an event of others

-- a test that, once it fails, fails after too
left_if : (t : Tables) (H : List Event) (b after : Bool) (w : Wait) → wait_kept t H w ≡ cond after w Nobody
    → (after ≡ true → b ≡ true) → cond after w Nobody ≡ wait_kept t H (cond b w Nobody)
left_if t H true after w is h = sym is
left_if t H false after w is h = ap (λ x. cond x w Nobody) (false_from_ne_true after (λ e. false≢true (h e)))

module _ (t : Tables) (network : IsNetwork t) (B : List Event) (e : Event) (legal : Legal t (B ++ e ∷ [])) (p : ℕ)
    (other : is_of p e ≡ false) where
  owned : Owns t e
  owned = Owns-last t network B e legal

  by_last : (last : Option Event) → last_event B p ≡ last
      → wait_of_last t (B ++ e ∷ []) last ≡ wait_kept t (B ++ e ∷ []) (wait_of_last t B last)
  by_last None is = refl
  by_last (Some (WaitEmpty q c)) is =
      let own = last_is_own t network p B (Legal-before t B e legal) (WaitEmpty q c) is in
      let reader : reader_of t c ≡ Process p =
      reader_of-Reads t network q c own.owns ∙ ap Process (eqb-true q p own.its) in
      left_if t (B ++ e ∷ []) (is_empty B c) (is_empty (B ++ e ∷ []) c) (Empty c) refl
      (empty_before B e c (read_in-other t network c p reader e owned other))
  by_last (Some (WaitFull q c)) is =
      let own = last_is_own t network p B (Legal-before t B e legal) (WaitFull q c) is in
      let writer : writer_of t c ≡ Process p =
      writer_of-Writes t network q c own.owns ∙ ap Process (eqb-true q p own.its) in
      left_if t (B ++ e ∷ []) (is_full t B c) (is_full t (B ++ e ∷ []) c) (Full c) refl
      (full_before t B e (Legal-last t B e legal) c (written_in-other t network c p writer e owned other))
  by_last (Some event) is = refl

  wait_of_other : wait_of t (B ++ e ∷ []) p ≡ wait_kept t (B ++ e ∷ []) (wait_of t B p)
  wait_of_other = ap (wait_of_last t (B ++ e ∷ [])) (last_event-other B e p other) ∙ by_last (last_event B p) refl

-- what each process is blocked on after one more event
pub wait_of-more : (t : Tables) → IsNetwork t → (B : List Event) (e : Event) → Legal t (B ++ e ∷ []) → (p : ℕ)
    → wait_of t (B ++ e ∷ []) p ≡ wait_after t B e p (wait_of t B p)
wait_of-more t network B e legal p =
    elim (cases_Bool (is_of p e)) [
      | inl own ↦
          ap (wait_of_last t (B ++ e ∷ [])) (last_event-own B e p own)
          ∙ wait_of_own t B e legal
          ∙ sym (ap (λ b. cond b (wait_made e) (wait_kept t (B ++ e ∷ []) (wait_of t B p))) own)
      | inr other ↦
          wait_of_other t network B e legal p other
          ∙ sym (ap (λ b. cond b (wait_made e) (wait_kept t (B ++ e ∷ []) (wait_of t B p))) other)
    ]

-- ---- a process that has ended is not blocked

end_is_own : (p : ℕ) (e : Event) → is_end_of p e ≡ true → is_of p e ≡ true
end_is_own p (Ended q how) is = is
end_is_own p event is = absurd (false≢true is)

end_makes_no_wait : (p : ℕ) (e : Event) → is_end_of p e ≡ true → wait_made e ≡ Nobody
end_makes_no_wait p (WaitEmpty q c) is = absurd (false≢true is)
end_makes_no_wait p (WaitFull q c) is = absurd (false≢true is)
end_makes_no_wait p event is = refl

-- a process that makes an event had not ended
pub alive_before : (t : Tables) (B : List Event) (e : Event) → Legal t (B ++ e ∷ []) → (p : ℕ) → is_of p e ≡ true
    → has_ended B p ≡ false
alive_before t B (Get q c v) legal p is =
    subst (λ x. has_ended B x ≡ false) (eqb-true q p is) (Legal-last t B (Get q c v) legal).due.lives
alive_before t B (Put q c v) legal p is =
    subst (λ x. has_ended B x ≡ false) (eqb-true q p is) (Legal-last t B (Put q c v) legal).due.lives
alive_before t B (WaitEmpty q c) legal p is =
    subst (λ x. has_ended B x ≡ false) (eqb-true q p is) (Legal-last t B (WaitEmpty q c) legal).due.0.lives
alive_before t B (WaitFull q c) legal p is =
    subst (λ x. has_ended B x ≡ false) (eqb-true q p is) (Legal-last t B (WaitFull q c) legal).due.0.lives
alive_before t B (Ended q how) legal p is =
    subst (λ x. has_ended B x ≡ false) (eqb-true q p is) (Legal-last t B (Ended q how) legal).due.0.lives
alive_before t B event legal p is = absurd (false≢true is)

pub ended_is_not_blocked : (t : Tables) → IsNetwork t → (p : ℕ) (H : List Event) → Legal t H → has_ended H p ≡ true
    → wait_of t H p ≡ Nobody
ended_is_not_blocked t network p =
    by_events t (λ H. has_ended H p ≡ true → wait_of t H p ≡ Nobody)
    (λ is. refl)
    (λ B e legal h is.
    wait_of-more t network B e legal p
    ∙ cond_both (is_of p e) (wait_made e) (wait_kept t (B ++ e ∷ []) (wait_of t B p)) (λ w. w ≡ Nobody)
    (λ own. end_makes_no_wait p e
    (elim (or_cases (has_ended B p) (is_end_of p e || false) (sym (has_ended-push B e p) ∙ is)) [
      | inl before ↦ absurd (both_ways (has_ended B p) (alive_before t B e legal p own) before)
      | inr now ↦ only_now (is_end_of p e) now
    ]))
    (λ other. ap (wait_kept t (B ++ e ∷ []))
    (h
    (elim (or_cases (has_ended B p) (is_end_of p e || false) (sym (has_ended-push B e p) ∙ is)) [
      | inl before ↦ before
      | inr now ↦ absurd (both_ways (is_of p e) other (end_is_own p e (only_now (is_end_of p e) now)))
    ]))))
  where
    only_now : (b : Bool) → (b || false) ≡ true → b ≡ true
    only_now true is = refl
    only_now false is = is
