-- Which events wake which waits, and what each process waits for after one more event of a legal history. A wait on an
-- empty channel ends with an item there. On a full channel whose reader lives, exactly as many items are unread as its
-- capacity. So one item less, or a capacity of one more, ends a wait there.
use Rattle.std.proofs.Common.{◌≡◌, ◌↔◌, ℕ, suc, ℤ, ◌<◌, Bool, true, false, not, ◌&&◌, cond, eqb, eq-eqb, List, [], ◌∷◌, ◌++◌, length, refl, sym, ap, ◌∙◌, subst, inl, inr, arith}
use Rattle.kpn_history.proofs.Common.{cases_eq, false_from_ne_true, and_parts, false≢true, eqb-true, ne_eqb, length_of_prefix, Wait, Nobody, Empty, Full, End, Process, Source, Sink, Tables, writer_of, reader_of, IsNetwork, IsOwnWait, How, Event, Get, Put, WaitEmpty, WaitFull, Ended, Feed, Close, Take, Leave, Grow, is_of, written_in, read_in, written_on, read_on, unread_on, reader_lives, is_growth_of, capacity_after, reaches, is_empty, is_full, wait_of, wait_made, wait_kept, is_process, wakes_reader, wakes_writer, wakes, wait_then, WaitsAsFullFor, IsWoken, EndsNobody, takes_reader, takes_end, IsOldest, IsConsistent, Legal, reader_of-sink}
use Rattle.kpn_history.proofs.Legality.{Legal-before, Legal-consistent}
use Rattle.kpn_history.proofs.Ownership.{Owns-last}
use Rattle.kpn_history.proofs.Journals.{none_elsewhere, read_in-other, reads_begin_writes}
use Rattle.kpn_history.proofs.Capacities.{capacity_after-same}
use Rattle.kpn_history.proofs.OneMore.{unread_length, unread_length-push, item_here, KeepsConsistent-last}
use Rattle.kpn_history.proofs.WaitsAfter.{is_full-same, written_in-other, wait_of-more}
use Rattle.kpn_history.proofs.AfterEvent.{reader_lives-next, keeps_reader}
use Rattle.kpn_history.proofs.Growth.{Some-number, reached, not_full_then}
use Rattle.kpn_history.proofs.OwnWaits.{wait_on_empty, wait_on_full}

-- ---- an empty channel

no_item : (b : Bool) (v : ℤ) → eqb (length (cond b (v ∷ []) [])) 0 ≡ not b
no_item true v = refl
no_item false v = refl

-- an event that brings no item writes none
brings_none : (c : ℕ) (e : Event) → eqb (length (written_in c e)) 0 ≡ not (wakes_reader c e)
brings_none c (Put p d v) = no_item (eqb d c) v
brings_none c (Feed d v) = no_item (eqb d c) v
brings_none c event = refl

empty_after : (t : Tables) (B : List Event) (e : Event) (c : ℕ) → Legal t B → is_empty B c ≡ true → read_in c e ≡ []
    → is_empty (B ++ e ∷ []) c ≡ not (wakes_reader c e)
empty_after t B e c legal empty none =
    let nothing : length (unread_on B c) ≡ 0 = eqb-true _ _ empty in
    let order = length_of_prefix (read_on B c) (written_on B c) (reads_begin_writes t B legal c) in
    let before = unread_length B c in
    let after = unread_length-push B e c in
    let unread = ap length none in
    let same : length (unread_on (B ++ e ∷ []) c) ≡ length (written_in c e) = omega arith in
    ap (λ n. eqb n 0) same ∙ brings_none c e

-- ---- a full channel

-- an event that neither writes on the channel nor reads from it, nor grows it, nor takes its reader away
stays_full : (t : Tables) (B : List Event) (e : Event) (c : ℕ) → is_full t B c ≡ true → written_in c e ≡ []
    → read_in c e ≡ [] → is_growth_of c e ≡ false → takes_reader t c e ≡ false → is_full t (B ++ e ∷ []) c ≡ true
stays_full t B e c full writes reads grows stays = is_full-same t B e c writes reads grows stays ∙ full

-- if the event takes the reader away, the channel is not full
not_full_without : (t : Tables) (B : List Event) (e : Event) (c : ℕ) → takes_reader t c e ≡ true
    → is_full t (B ++ e ∷ []) c ≡ false
not_full_without t B e c gone =
    ap (λ b. b && reaches (capacity_after t (B ++ e ∷ []) c) (length (unread_on (B ++ e ∷ []) c)))
    (reader_lives-next t B e c ∙ ap (λ b. reader_lives t B c && not b) gone ∙ and-false (reader_lives t B c))
  where
    and-false : (b : Bool) → (b && false) ≡ false
    and-false true = refl
    and-false false = refl

-- if an item is read, the channel is not full
not_full_read : (t : Tables) (B : List Event) (e : Event) (c : ℕ) (v : ℤ) → IsConsistent t B → c < length t.channels
    → is_full t B c ≡ true → written_in c e ≡ [] → read_in c e ≡ v ∷ [] → is_growth_of c e ≡ false → IsOldest B c v
    → is_full t (B ++ e ∷ []) c ≡ false
not_full_read t B e c v consistent there was writes reads grows oldest = false_from_ne_true _ clash
  where
    clash : is_full t (B ++ e ∷ []) c ≡ true → ⊥
    clash now =
        let H : List Event = B ++ e ∷ [] in
        let before = and_parts (reader_lives t B c) (reaches (capacity_after t B c) (length (unread_on B c))) was in
        let after = and_parts (reader_lives t H c) (reaches (capacity_after t H c) (length (unread_on H c))) now in
        let cap = reached (capacity_after t B c) (length (unread_on B c)) before.1 in
        let later = reached (capacity_after t H c) (length (unread_on H c)) after.1 in
        let same : cap.cap ≡ later.cap =
        Some-number _ _ (sym cap.is ∙ sym (capacity_after-same t B e c grows) ∙ later.is) in
        let within = consistent.within c there before.0 cap.cap cap.is in
        let unread_before = unread_length B c in
        let unread_after = unread_length-push B e c in
        let written = ap length writes in
        let read = ap length reads in
        let some : length (unread_on B c) ≡ suc (length oldest.rest) = ap length oldest.first in
        let reach = later.at_most in
        omega arith

read_here : (d c : ℕ) (v : ℤ) → d ≡ c → cond (eqb d c) (v ∷ []) [] ≡ v ∷ []
read_here d c v same = ap (λ x. cond (eqb x c) (v ∷ []) []) same ∙ item_here c v

is_here : (d c : ℕ) → d ≡ c → not (eqb d c) ≡ false
is_here d c same = ap not (eq-eqb d c same)

is_elsewhere : (d c : ℕ) → (d ≡ c → ⊥) → not (eqb d c) ≡ true
is_elsewhere d c differ = ap not (ne_eqb d c differ)

module _ (t : Tables) (network : IsNetwork t) (B : List Event) (p c : ℕ) (writes : writer_of t c ≡ Process p)
    (there : c < length t.channels) (full : is_full t B c ≡ true) where
  after_end : (q : ℕ) (how : How) (end : End) → reader_of t c ≡ end
      → is_full t (B ++ Ended q how ∷ []) c ≡ not (is_process q end)
  after_end q how (Process r) is =
      elim (cases_eq q r) [
        | inl same ↦
            not_full_without t B (Ended q how) c (ap (takes_end c (Ended q how)) is ∙ eq-eqb q r same)
            ∙ sym (is_here q r same)
        | inr differ ↦
            stays_full t B (Ended q how) c full refl refl refl (ap (takes_end c (Ended q how)) is ∙ ne_eqb q r differ)
            ∙ sym (is_elsewhere q r differ)
      ]
  after_end q how Source is = stays_full t B (Ended q how) c full refl refl refl (ap (takes_end c (Ended q how)) is)
  after_end q how Sink is = stays_full t B (Ended q how) c full refl refl refl (ap (takes_end c (Ended q how)) is)

  -- of an event of another process, or of the caller
  full_after : (e : Event) → Legal t (B ++ e ∷ []) → is_of p e ≡ false
      → is_full t (B ++ e ∷ []) c ≡ not (wakes_writer t c e)
  full_after (Get q d v) legal other =
      elim (cases_eq d c) [
        | inl same ↦
            not_full_read t B (Get q d v) c v (Legal-consistent t B (Legal-before t B (Get q d v) legal)) there full
            refl (read_here d c v same) refl
            (subst (λ x. IsOldest B x v) same (KeepsConsistent-last t B (Get q d v) legal).0)
            ∙ sym (is_here d c same)
        | inr differ ↦
            stays_full t B (Get q d v) c full refl (none_elsewhere d c v differ) refl
            (keeps_reader t c (Get q d v) (λ r. refl) refl)
            ∙ sym (is_elsewhere d c differ)
      ]
  full_after (Put q d v) legal other =
      stays_full t B (Put q d v) c full
      (written_in-other t network c p writes (Put q d v) (Owns-last t network B (Put q d v) legal) other) refl
      refl
      (keeps_reader t c (Put q d v) (λ r. refl) refl)
  full_after (Ended q how) legal other = after_end q how (reader_of t c) refl
  full_after (Feed d v) legal other =
      stays_full t B (Feed d v) c full
      (written_in-other t network c p writes (Feed d v) (Owns-last t network B (Feed d v) legal) other) refl refl
      (keeps_reader t c (Feed d v) (λ r. refl) refl)
  full_after (Take d v) legal other =
      elim (cases_eq d c) [
        | inl same ↦
            not_full_read t B (Take d v) c v (Legal-consistent t B (Legal-before t B (Take d v) legal)) there full
            refl (read_here d c v same) refl
            (subst (λ x. IsOldest B x v) same (KeepsConsistent-last t B (Take d v) legal))
            ∙ sym (is_here d c same)
        | inr differ ↦
            stays_full t B (Take d v) c full refl (none_elsewhere d c v differ) refl
            (keeps_reader t c (Take d v) (λ r. refl) refl)
            ∙ sym (is_elsewhere d c differ)
      ]
  full_after (Leave d) legal other =
      elim (cases_eq d c) [
        | inl same ↦
            let sink : reader_of t c ≡ Sink =
            subst (λ x. reader_of t x ≡ Sink) same (reader_of-sink t d (Owns-last t network B (Leave d) legal)) in
            not_full_without t B (Leave d) c (ap (takes_end c (Leave d)) sink ∙ eq-eqb d c same)
            ∙ sym (is_here d c same)
        | inr differ ↦
            stays_full t B (Leave d) c full refl refl refl
            (keeps_reader t c (Leave d) (λ r. refl) (ne_eqb d c differ))
            ∙ sym (is_elsewhere d c differ)
      ]
  full_after (Grow q d n) legal other =
      elim (cases_eq d c) [
        | inl same ↦
            false_from_ne_true _
            (λ now. not_full_then t network B q c n (subst (λ x. Legal t (B ++ Grow q x n ∷ [])) same legal) there full
            (subst (λ x. is_full t (B ++ Grow q x n ∷ []) c ≡ true) same now))
            ∙ sym (is_here d c same)
        | inr differ ↦
            stays_full t B (Grow q d n) c full refl refl (ne_eqb d c differ)
            (keeps_reader t c (Grow q d n) (λ r. refl) refl)
            ∙ sym (is_elsewhere d c differ)
      ]
  full_after (WaitEmpty q d) legal other =
      stays_full t B (WaitEmpty q d) c full refl refl refl
      (keeps_reader t c (WaitEmpty q d) (λ r. refl) refl)
  full_after (WaitFull q d) legal other =
      stays_full t B (WaitFull q d) c full refl refl refl
      (keeps_reader t c (WaitFull q d) (λ r. refl) refl)
  full_after (Close d) legal other =
      stays_full t B (Close d) c full refl refl refl (keeps_reader t c (Close d) (λ r. refl) refl)

-- ---- what each process waits for

if_not : (b : Bool) (w : Wait) → cond (not b) w Nobody ≡ cond b Nobody w
if_not true w = refl
if_not false w = refl

module _ (t : Tables) (network : IsNetwork t) (B : List Event) (e : Event) (legal : Legal t (B ++ e ∷ [])) (p : ℕ)
  where
    kept_unless_woken : is_of p e ≡ false → (w : Wait) → wait_of t B p ≡ w
        → wait_kept t (B ++ e ∷ []) w ≡ cond (wakes t e w) Nobody w
    kept_unless_woken other Nobody is = refl
    kept_unless_woken other (Empty c) is =
        let before = Legal-before t B e legal in
        let at = wait_on_empty t network B before p c is in
        ap (λ b. cond b (Empty c) Nobody)
        (empty_after t B e c before at.empty
        (read_in-other t network c p at.reads e (Owns-last t network B e legal) other))
        ∙ if_not (wakes_reader c e) (Empty c)
    kept_unless_woken other (Full c) is =
        let at = wait_on_full t network B (Legal-before t B e legal) p c is in
        ap (λ b. cond b (Full c) Nobody) (full_after t network B p c at.writes at.there at.full e legal other)
        ∙ if_not (wakes_writer t c e) (Full c)

pub wait_of-then : (t : Tables) → IsNetwork t → (B : List Event) (e : Event) → Legal t (B ++ e ∷ []) → (p : ℕ)
    → wait_of t (B ++ e ∷ []) p ≡ wait_then t e p (wait_of t B p)
wait_of-then t network B e legal p = wait_of-more t network B e legal p ∙ by_own (is_of p e) refl
  where
    by_own : (own : Bool) → is_of p e ≡ own
        → cond own (wait_made e) (wait_kept t (B ++ e ∷ []) (wait_of t B p))
        ≡ cond own (wait_made e) (cond (wakes t e (wait_of t B p)) Nobody (wait_of t B p))
    by_own true is = refl
    by_own false is = kept_unless_woken t network B e legal p is (wait_of t B p) refl

-- ---- which processes an event wakes

abbrev IsWokenAsEmpty : Tables → (p d : ℕ) → Wait → Type 0
IsWokenAsEmpty t p d w = (w ≡ Empty d) × (reader_of t d ≡ Process p)

abbrev IsWokenAsFull : Tables → (p d : ℕ) → Wait → Type 0
IsWokenAsFull t p d w = (w ≡ Full d) × (writer_of t d ≡ Process p)

no_empty : (t : Tables) (p d : ℕ) (w : Wait) → (w ≡ Empty d → ⊥) → (false ≡ true) ↔ IsWokenAsEmpty t p d w
no_empty t p d w none = (λ is. absurd (false≢true is), λ h. absurd (none h.0))

no_full : (t : Tables) (p d : ℕ) (w : Wait) → (w ≡ Full d → ⊥) → (false ≡ true) ↔ IsWokenAsFull t p d w
no_full t p d w none = (λ is. absurd (false≢true is), λ h. absurd (none h.0))

on_empty : (t : Tables) (p d c : ℕ) → reader_of t c ≡ Process p → (eqb d c ≡ true) ↔ IsWokenAsEmpty t p d (Empty c)
on_empty t p d c own = (
  λ is. let same = eqb-true d c is in (ap Empty (sym same), subst (λ x. reader_of t x ≡ Process p) (sym same) own),
  λ h. let e = h.0 in let same : d ≡ c = cc in eq-eqb d c same,
)

on_full : (t : Tables) (p d c : ℕ) → writer_of t c ≡ Process p → (eqb d c ≡ true) ↔ IsWokenAsFull t p d (Full c)
on_full t p d c own = (
  λ is. let same = eqb-true d c is in (ap Full (sym same), subst (λ x. writer_of t x ≡ Process p) (sym same) own),
  λ h. let e = h.0 in let same : d ≡ c = cc in eq-eqb d c same,
)

is_process-true : (q : ℕ) (end : End) → is_process q end ≡ true → end ≡ Process q
is_process-true q (Process r) is = ap Process (sym (eqb-true q r is))
is_process-true q Source is = absurd (false≢true is)
is_process-true q Sink is = absurd (false≢true is)

no_end : (t : Tables) (q p : ℕ) (w : Wait) → ((d : ℕ) → w ≡ Full d → ⊥) → (false ≡ true) ↔ WaitsAsFullFor t q p w
no_end t q p w none = (λ is. absurd (false≢true is), λ h. absurd (none h.channel h.waits))

on_end : (t : Tables) (q p c : ℕ) → writer_of t c ≡ Process p
    → (is_process q (reader_of t c) ≡ true) ↔ WaitsAsFullFor t q p (Full c)
on_end t q p c own = (
  λ is. record { channel = c; waits = refl; read = is_process-true q (reader_of t c) is; written = own },
  λ h. let e = h.waits in let same : h.channel ≡ c = cc in
      ap (is_process q) (subst (λ x. reader_of t x ≡ Process q) same h.read) ∙ eq-eqb q q refl,
)

pub woken : (t : Tables) (e : Event) (p : ℕ) (w : Wait) → IsOwnWait t p w → (wakes t e w ≡ true) ↔ IsWoken t e p w
woken t (Get q d v) p Nobody own = no_full t p d Nobody (λ e. absurd cc)
woken t (Get q d v) p (Empty c) own = no_full t p d (Empty c) (λ e. absurd cc)
woken t (Get q d v) p (Full c) own = on_full t p d c own
woken t (Put q d v) p Nobody own = no_empty t p d Nobody (λ e. absurd cc)
woken t (Put q d v) p (Empty c) own = on_empty t p d c own
woken t (Put q d v) p (Full c) own = no_empty t p d (Full c) (λ e. absurd cc)
woken t (Ended q how) p Nobody own = no_end t q p Nobody (λ d e. absurd cc)
woken t (Ended q how) p (Empty c) own = no_end t q p (Empty c) (λ d e. absurd cc)
woken t (Ended q how) p (Full c) own = on_end t q p c own
woken t (Feed d v) p Nobody own = no_empty t p d Nobody (λ e. absurd cc)
woken t (Feed d v) p (Empty c) own = on_empty t p d c own
woken t (Feed d v) p (Full c) own = no_empty t p d (Full c) (λ e. absurd cc)
woken t (Take d v) p Nobody own = no_full t p d Nobody (λ e. absurd cc)
woken t (Take d v) p (Empty c) own = no_full t p d (Empty c) (λ e. absurd cc)
woken t (Take d v) p (Full c) own = on_full t p d c own
woken t (Leave d) p Nobody own = no_full t p d Nobody (λ e. absurd cc)
woken t (Leave d) p (Empty c) own = no_full t p d (Empty c) (λ e. absurd cc)
woken t (Leave d) p (Full c) own = on_full t p d c own
woken t (Grow q d n) p Nobody own = no_full t p d Nobody (λ e. absurd cc)
woken t (Grow q d n) p (Empty c) own = no_full t p d (Empty c) (λ e. absurd cc)
woken t (Grow q d n) p (Full c) own = on_full t p d c own
woken t event p Nobody own = (λ is. absurd (false≢true is), λ h. absurd h)
woken t event p (Empty c) own = (λ is. absurd (false≢true is), λ h. absurd h)
woken t event p (Full c) own = (λ is. absurd (false≢true is), λ h. absurd h)

same_process : (end : End) (p q : ℕ) → end ≡ Process p → end ≡ Process q → p ≡ q
same_process end p q a b = cc

pub one_is_woken : (t : Tables) (e : Event) → EndsNobody e → (p q : ℕ) (v w : Wait) → IsOwnWait t p v
    → IsOwnWait t q w → wakes t e v ≡ true → wakes t e w ≡ true → p ≡ q
one_is_woken t e nobody p q v w own other is too =
    same t e nobody p q v w ((woken t e p v own).0 is) ((woken t e q w other).0 too)
  where
    same : (t : Tables) (e : Event) → EndsNobody e → (p q : ℕ) (v w : Wait) → IsWoken t e p v → IsWoken t e q w
        → p ≡ q
    same t (Get r d x) nobody p q v w a b = same_process (writer_of t d) p q a.1 b.1
    same t (Put r d x) nobody p q v w a b = same_process (reader_of t d) p q a.1 b.1
    same t (Ended r how) nobody p q v w a b = absurd nobody
    same t (Feed d x) nobody p q v w a b = same_process (reader_of t d) p q a.1 b.1
    same t (Take d x) nobody p q v w a b = same_process (writer_of t d) p q a.1 b.1
    same t (Leave d) nobody p q v w a b = same_process (writer_of t d) p q a.1 b.1
    same t (Grow r d n) nobody p q v w a b = same_process (writer_of t d) p q a.1 b.1
    same t event nobody p q v w a b = absurd a
