-- What the clocks of a legal history say of items and of room.
use Rattle.kpn_ticks.proofs.Common.{◌≡◌, ◌≢◌, ℕ, zero, ◌+◌, ◌<◌, ◌≤◌, Bool, true, false, not, nat_lt, cond, eqb, eq-eqb, ℤ, List, [], ◌∷◌, ◌++◌, length, set, get_or, Option, Some, None, refl, sym, ap, ◌∙◌, subst, inl, inr, arith, cases_lt, cases_Bool, both_ways, and_cases, or_left, le-leb, lt-ltb, eqb-true, eqb_tells, append-nil, length-append, length-set, get_or-set_same, get_or-set_other, get_or_past, length-map-range_with_len, get_or-map-range_with_len, IsPrefix, got_at, put_at, IsPrefix-after, length_of_prefix, rest_of_prefix, End, Process, Source, Sink, Tables, channel_at, capacity, larger_capacity, writer_of, reader_of, IsNetwork, Event, Get, Put, Feed, Take, Grow, is_of, said_in, talk_of, is_end_of, has_ended, written_in, read_in, written_on, read_on, unread_on, lives, reader_lives, after_growths, capacity_after, reaches, Legal, IsOwn, talk_of-other, written_on-push, Legal-nil, Legal-before, Legal-last, by_events, onward, IsOwn-last, no_source, none_elsewhere, written_on-put, read_on-got, Clocks, latest_of, written_of, read_of, item_there, get_tick, put_tick, grown_from, clocks_with_event, start, clocks_after, tick_in, capacity_in, capacities_of}
use Rattle.std.specs.Option.{option_map, unwrap_or}
use Rattle.kpn_lang.proofs.Talks.{got_at-prefix}
use Rattle.kpn_history.proofs.Capacities.{capacity_after-same, capacity_of_growth, below_limit}
use Rattle.kpn_history.proofs.OneMore.{KeepsConsistent-last, unread_length}
use Rattle.kpn_history.proofs.AfterEvent.{has_ended-next}
use Rattle.kpn_history.proofs.WaitsAfter.{alive_before}
use Rattle.kpn_ticks.proofs.Counting.{all_alike, pushed_cases}
use Rattle.kpn_ticks.proofs.Seen.{seen_push, seen_length, clocks_push, have_places, wrote, took, written_then, read_then, written_seen, read_seen, last_tick, latest_then}

-- ---- how many items

pub one_each : {A C : Type 0} (b : Bool) (x : A) (y : C) → length (cond b (x ∷ []) []) ≡ length (cond b (y ∷ []) [])
one_each true x y = refl
one_each false x y = refl

writes_as_many : (t : Tables) (c : ℕ) (s : Clocks) (e : Event) → length (wrote t c s e) ≡ length (written_in c e)
writes_as_many t c s (Put p d v) = one_each (eqb d c) (put_tick t s p d) v
writes_as_many t c s (Feed d v) = one_each (eqb d c) 0 v
writes_as_many t c s event = refl

reads_as_many : (t : Tables) (c : ℕ) (s : Clocks) (e : Event) → length (took t c s e) ≡ length (read_in c e)
reads_as_many t c s (Get p d v) = one_each (eqb d c) (get_tick s p d) v
reads_as_many t c s (Take d v) = one_each (eqb d c) (item_there s d) v
reads_as_many t c s event = refl

pub written_length : (t : Tables) (b : Bool) (c : ℕ) (H : List Event) → Legal t H
    → length (written_of (clocks_after t b H) c) ≡ length (written_on H c)
written_length t b c H legal =
    ap length (written_seen t b c H legal)
    ∙ seen_length (wrote t c) (written_in c) (writes_as_many t c) t (start t b) H

pub read_length : (t : Tables) (b : Bool) (c : ℕ) (H : List Event) → Legal t H
    → length (read_of (clocks_after t b H) c) ≡ length (read_on H c)
read_length t b c H legal =
    ap length (read_seen t b c H legal)
    ∙ seen_length (took t c) (read_in c) (reads_as_many t c) t (start t b) H

pub puts_counted : (t : Tables) → IsNetwork t → (b : Bool) (c p : ℕ) → writer_of t c ≡ Process p → (H : List Event)
    → Legal t H → length (written_of (clocks_after t b H) c) ≡ length (put_at (talk_of H p) c)
puts_counted t network b c p writes H legal =
    written_length t b c H legal ∙ ap length (written_on-put t network c p writes H legal)

pub gets_counted : (t : Tables) → IsNetwork t → (b : Bool) (c p : ℕ) → reader_of t c ≡ Process p → (H : List Event)
    → Legal t H → length (read_of (clocks_after t b H) c) ≡ length (got_at (talk_of H p) c)
gets_counted t network b c p reads H legal =
    read_length t b c H legal ∙ ap length (read_on-got t network c p reads H legal)

-- an item that is got lies there
pub item_lies : (t : Tables) (b : Bool) (B : List Event) (p c : ℕ) (v : ℤ)
    → Legal t (B ++ Get p c v ∷ [])
    → length (read_of (clocks_after t b B) c) < length (written_of (clocks_after t b B) c)
item_lies t b B p c v legal =
    let before = Legal-before t B (Get p c v) legal in
    let oldest = (KeepsConsistent-last t B (Get p c v) legal).0 in
    let one = ap length oldest.first in
    let unread = unread_length B c in
    let written = written_length t b c B before in
    let read = read_length t b c B before in
    omega (arith, one, unread, written, read)

-- ---- capacities

first_capacity : (t : Tables) (b : Bool) (c cap : ℕ) → get_or (start t b).capacities c None ≡ Some cap
    → capacity_after t [] c ≡ Some cap
first_capacity t true c cap is =
    let f : ℕ → Option ℕ = λ c. capacity (channel_at t c) in
    let n = length t.channels in
    elim (cases_lt c n) [
      | inl within ↦
          ap (option_map (after_growths t zero))
          (sym (get_or-map-range_with_len f 0 n c c None within (omega arith)) ∙ is)
      | inr out ↦
          let past = get_or_past (start t true).capacities c None
          (let long = length-map-range_with_len f 0 n in omega (arith, out, long)) in
          let clash : None ≡ Some cap = sym past ∙ is in
          absurd cc
    ]
first_capacity t false c cap is =
    let clash : None ≡ Some cap = sym (all_alike None (length t.channels) c) ∙ is in
    absurd cc

larger_if : (t : Tables) (b : Bool) (n : ℕ) → b ≡ true → cond b (larger_capacity t n) n ≡ larger_capacity t n
larger_if t true n is = refl
larger_if t false n is = absurd cc

grown_is : (t : Tables) (B : List Event) (p d m cap : ℕ) → Legal t (B ++ Grow p d m ∷ []) → (o : Option ℕ)
    → ((n : ℕ) → o ≡ Some n → capacity_after t B d ≡ Some n) → grown_from t o ≡ Some cap
    → capacity_after t (B ++ Grow p d m ∷ []) d ≡ Some cap
grown_is t B p d m cap legal None before is = absurd cc
grown_is t B p d m cap legal (Some n) before is =
    let was = before n refl in
    let below = below_limit t B p d (Legal-last t B (Grow p d m) legal).due in
    let less : n < t.limit = subst (λ o. unwrap_or o 0 < t.limit) was below in
    capacity_of_growth t B p d m n was
    ∙ ap Some (sym (larger_if t (nat_lt n t.limit) n (lt-ltb n t.limit less))) ∙ is

capacity_then : (t : Tables) (s : Clocks) (B : List Event) (e : Event) → Legal t (B ++ e ∷ [])
    → ((c cap : ℕ) → get_or s.capacities c None ≡ Some cap → capacity_after t B c ≡ Some cap) → (c cap : ℕ)
    → get_or (clocks_with_event t s e).capacities c None ≡ Some cap → capacity_after t (B ++ e ∷ []) c ≡ Some cap
capacity_then t s B (Grow p d m) legal before c cap is =
    let o = get_or s.capacities d None in
    let new = grown_from t o in
    elim (eqb_tells d c) [
      | inl same ↦ elim (cases_lt d (length s.capacities)) [
        | inl within ↦
            subst (λ x. capacity_after t (B ++ Grow p d m ∷ []) x ≡ Some cap) same.1
            (grown_is t B p d m cap legal o (before d)
            (sym (get_or-set_same s.capacities d new None within)
            ∙ subst (λ x. get_or (set s.capacities d new) x None ≡ Some cap) (sym same.1) is))
        | inr out ↦
            let past = get_or_past (set s.capacities d new) d None
            (let long = length-set s.capacities d new in omega (arith, out, long)) in
            let clash : None ≡ Some cap =
            sym past ∙ subst (λ x. get_or (set s.capacities d new) x None ≡ Some cap) (sym same.1) is in
            absurd cc
      ]
      | inr differ ↦
          capacity_after-same t B (Grow p d m) c differ.0
          ∙ before c cap (sym (get_or-set_other s.capacities d c new None (λ x. differ.1 (sym x))) ∙ is)
    ]
capacity_then t s B event legal before c cap is = capacity_after-same t B event c refl ∙ before c cap is

-- a capacity of the clocks is that of the channel
pub capacity_is : (t : Tables) (b : Bool) (H : List Event) → Legal t H → (c cap : ℕ)
    → get_or (clocks_after t b H).capacities c None ≡ Some cap → capacity_after t H c ≡ Some cap
capacity_is t b =
    by_events t
    (λ H. (c cap : ℕ) → get_or (clocks_after t b H).capacities c None ≡ Some cap → capacity_after t H c ≡ Some cap)
    (first_capacity t b)
    (λ B e legal h c cap is.
    capacity_then t (clocks_after t b B) B e legal h c cap
    (sym (ap (λ s. get_or s.capacities c None) (clocks_push t b B e)) ∙ is))

-- ---- readers that have ended

not_false : (x : Bool) → not x ≡ false → x ≡ true
not_false true is = refl
not_false false is = absurd cc

-- a put that finds no room has a reader that has ended, if that is a process
pub reader_ended : (t : Tables) (b : Bool) (B : List Event) (p c q cap : ℕ) (v : ℤ)
    → Legal t (B ++ Put p c v ∷ []) → reader_of t c ≡ Process q
    → get_or (clocks_after t b B).capacities c None ≡ Some cap
    → cap + length (read_of (clocks_after t b B) c) ≤ length (written_of (clocks_after t b B) c)
    → has_ended B q ≡ true
reader_ended t b B p c q cap v legal reads has full =
    let before = Legal-before t B (Put p c v) legal in
    let room = (KeepsConsistent-last t B (Put p c v) legal).0 in
    let unread = unread_length B c in
    let written = written_length t b c B before in
    let read = read_length t b c B before in
    let reached : cap ≤ length (unread_on B c) = omega (arith, full, unread, written, read) in
    elim (and_cases (reader_lives t B c) (reaches (capacity_after t B c) (length (unread_on B c))) room) [
      | inl gone ↦ not_false (has_ended B q) (subst (λ end. lives B c end ≡ false) reads gone)
      | inr below ↦
          absurd (both_ways (reaches (Some cap) (length (unread_on B c)))
          (subst (λ o. reaches o (length (unread_on B c)) ≡ false) (capacity_is t b B before c cap has) below)
          (le-leb cap (length (unread_on B c)) reached))
    ]

pub says_no_more : (t : Tables) (B H : List Event) (q : ℕ) → Legal t H → IsPrefix B H → has_ended B q ≡ true
    → talk_of H q ≡ talk_of B q
says_no_more t B H q legal begins ended =
    let rest = rest_of_prefix B H begins in
    let stays = onward t (λ X. (has_ended X q ≡ true) × (talk_of X q ≡ talk_of B q))
    (λ X e legal h. (
      has_ended-next X e q ∙ or_left (has_ended X q) (is_end_of q e) h.0,
      elim (cases_Bool (is_of q e)) [
        | inl own ↦ absurd (both_ways (has_ended X q) (alive_before t X e legal q own) h.0)
        | inr other ↦ talk_of-other X e q other ∙ h.1
      ],
    )) rest.0 B (subst (Legal t) (sym rest.1) legal) (ended, refl) in
    subst (λ X. talk_of X q ≡ talk_of B q) rest.1 stays.1

pub talk_begins : (q : ℕ) (D G : List Event) → IsPrefix D G → IsPrefix (talk_of D q) (talk_of G q)
talk_begins q [] G p = tt
talk_begins q (e ∷ D) [] p = absurd p
talk_begins q (e ∷ D) (f ∷ G) p =
    subst (λ x. IsPrefix (said_in q e ++ talk_of D q) (said_in q x ++ talk_of G q)) p.0
    (IsPrefix-after (said_in q e) (talk_of D q) (talk_of G q) (talk_begins q D G p.1))

-- if the reader has ended in one of two histories in which processes say the same, the other has read no more
pub reads_no_more : (t : Tables) → IsNetwork t → (b : Bool) (H G B D : List Event) (c q : ℕ)
    → reader_of t c ≡ Process q → Legal t H → Legal t B → Legal t D → IsPrefix B H → IsPrefix D G
    → talk_of H q ≡ talk_of G q → has_ended B q ≡ true
    → length (read_of (clocks_after t b D) c) ≤ length (read_of (clocks_after t b B) c)
reads_no_more t network b H G B D c q reads legal legal_B legal_D begins other talk ended =
    let said = sym (says_no_more t B H q legal begins ended) ∙ talk in
    let whole = ap (λ xs. length (got_at xs c)) said in
    let part = length_of_prefix (got_at (talk_of D q) c) (got_at (talk_of G q) c)
    (got_at-prefix (talk_of D q) (talk_of G q) c (talk_begins q D G other)) in
    let here = gets_counted t network b c q reads B legal_B in
    let there = gets_counted t network b c q reads D legal_D in
    omega (arith, whole, part, here, there)

-- ---- what the caller writes and reads

pub not_source : (end : End) → end ≡ Source → (q : ℕ) → end ≢ Process q
not_source end is q there = let clash : Source ≡ Process q = sym is ∙ there in absurd cc

pub not_sink : (end : End) → end ≡ Sink → (q : ℕ) → end ≢ Process q
not_sink end is q there = let clash : Sink ≡ Process q = sym is ∙ there in absurd cc

pushed_if : (xs : List ℕ) (b : Bool) (x m : ℕ) → ((k : ℕ) → get_or xs k 0 ≤ m) → (b ≡ true → x ≤ m) → (k : ℕ)
    → get_or (xs ++ cond b (x ∷ []) []) k 0 ≤ m
pushed_if xs true x m all new k = pushed_cases xs x m all (new refl) k
pushed_if xs false x m all new k = subst (λ ys. get_or ys k 0 ≤ m) (sym (append-nil xs)) (all k)

no_process : (t : Tables) (s : Clocks) (c : ℕ) → ((q : ℕ) → writer_of t c ≢ Process q) → (e : Event) → IsOwn t e
    → ((k : ℕ) → get_or (written_of s c) k 0 ≤ 0) → (k : ℕ) → get_or (written_of s c ++ wrote t c s e) k 0 ≤ 0
no_process t s c none (Put p d v) own all k =
    pushed_if (written_of s c) (eqb d c) (put_tick t s p d) 0 all
    (λ is. absurd (none p (subst (λ x. writer_of t x ≡ Process p) (eqb-true d c is) own))) k
no_process t s c none (Feed d v) own all k = pushed_if (written_of s c) (eqb d c) 0 0 all (λ is. omega arith) k
no_process t s c none event own all k = pushed_if (written_of s c) false 0 0 all (λ is. omega arith) k

-- what no process writes is there at tick 0
pub fed_at_start : (t : Tables) → IsNetwork t → (b : Bool) (c : ℕ) → ((q : ℕ) → writer_of t c ≢ Process q)
    → (H : List Event) → Legal t H → (k : ℕ) → get_or (written_of (clocks_after t b H) c) k 0 ≤ 0
fed_at_start t network b c none =
    by_events t (λ H. (k : ℕ) → get_or (written_of (clocks_after t b H) c) k 0 ≤ 0)
    (λ k. subst (λ xs. get_or xs k 0 ≤ 0) (sym (written_seen t b c [] (Legal-nil t))) (omega arith))
    (λ B e legal h k.
    let s = clocks_after t b B in
    subst (λ xs. get_or xs k 0 ≤ 0)
    (sym (ap (λ s. written_of s c) (clocks_push t b B e)
    ∙ written_then t s e (have_places t b B) (Legal-last t B e legal).numbers c))
    (no_process t s c none e (IsOwn-last t network B e legal) h k))

-- the tick of the latest get or put of a process after an event
abbrev next_latest : (t : Tables) (p : ℕ) (s : Clocks) (e : Event) → ℕ
next_latest t p s e = last_tick (latest_of s p) (tick_in t p s e)

last_if : (b : Bool) (latest tick : ℕ) → (b ≡ true → latest ≤ tick)
    → latest ≤ last_tick latest (cond b (tick ∷ []) [])
last_if true latest tick h = h refl
last_if false latest tick h = omega arith

latest_grows : (t : Tables) (p : ℕ) (s : Clocks) (e : Event) → latest_of s p ≤ next_latest t p s e
latest_grows t p s (Get q c v) =
    last_if (eqb q p) (latest_of s p) (get_tick s q c)
    (λ is. subst (λ x. latest_of s x ≤ get_tick s q c) (eqb-true q p is) (omega arith))
latest_grows t p s (Put q c v) =
    last_if (eqb q p) (latest_of s p) (put_tick t s q c)
    (λ is. subst (λ x. latest_of s x ≤ put_tick t s q c) (eqb-true q p is) (omega arith))
latest_grows t p s e = omega arith

-- no tick of a channel is later than the latest of its writer
pub record IsInTime (s : Clocks) (p c : ℕ) : Type 0 where
  pub written : (k : ℕ) → get_or (written_of s c) k 0 ≤ latest_of s p
  pub read : (k : ℕ) → get_or (read_of s c) k 0 ≤ latest_of s p

writes_in_time : (t : Tables) (s : Clocks) (p c : ℕ) → writer_of t c ≡ Process p → (e : Event) → IsOwn t e
    → ((k : ℕ) → get_or (written_of s c) k 0 ≤ next_latest t p s e) → (k : ℕ)
    → get_or (written_of s c ++ wrote t c s e) k 0 ≤ next_latest t p s e
writes_in_time t s p c writes (Put q d v) own all k =
    pushed_if (written_of s c) (eqb d c) (put_tick t s q d) (next_latest t p s (Put q d v)) all
    (λ is.
    let other : writer_of t c ≡ Process q = subst (λ x. writer_of t x ≡ Process q) (eqb-true d c is) own in
    let same : q ≡ p = cc in
    subst (λ b. put_tick t s q d ≤ last_tick (latest_of s p) (cond b (put_tick t s q d ∷ []) []))
    (sym (eq-eqb q p same)) (omega arith)) k
writes_in_time t s p c writes (Feed d v) own all k =
    pushed_if (written_of s c) (eqb d c) 0 (next_latest t p s (Feed d v)) all (λ is. omega arith) k
writes_in_time t s p c writes e own all k =
    pushed_if (written_of s c) false 0 (next_latest t p s e) all (λ is. omega arith) k

reads_in_time : (t : Tables) (s : Clocks) (c : ℕ) → ((q : ℕ) → reader_of t c ≢ Process q) → (e : Event) → IsOwn t e
    → (m : ℕ) → item_there s c ≤ m → ((k : ℕ) → get_or (read_of s c) k 0 ≤ m) → (k : ℕ)
    → get_or (read_of s c ++ took t c s e) k 0 ≤ m
reads_in_time t s c none (Get q d v) own m item all k =
    pushed_if (read_of s c) (eqb d c) (get_tick s q d) m all
    (λ is. absurd (none q (subst (λ x. reader_of t x ≡ Process q) (eqb-true d c is) own))) k
reads_in_time t s c none (Take d v) own m item all k =
    pushed_if (read_of s c) (eqb d c) (item_there s d) m all
    (λ is. subst (λ x. item_there s x ≤ m) (sym (eqb-true d c is)) item) k
reads_in_time t s c none e own m item all k = pushed_if (read_of s c) false 0 m all (λ is. omega arith) k

-- a process writes the channel, and none reads it
pub in_time : (t : Tables) → IsNetwork t → (b : Bool) (p c : ℕ) → writer_of t c ≡ Process p
    → ((q : ℕ) → reader_of t c ≢ Process q) → (H : List Event) → Legal t H → IsInTime (clocks_after t b H) p c
in_time t network b p c writes none =
    by_events t (λ H. IsInTime (clocks_after t b H) p c)
    (record {
      written = λ k. subst (λ xs. get_or xs k 0 ≤ latest_of (start t b) p)
          (sym (written_seen t b c [] (Legal-nil t))) (omega arith);
      read = λ k. subst (λ xs. get_or xs k 0 ≤ latest_of (start t b) p)
          (sym (read_seen t b c [] (Legal-nil t))) (omega arith);
    })
    (λ B e legal h. one_more B e legal h)
  where
    one_more : (B : List Event) (e : Event) → Legal t (B ++ e ∷ []) → IsInTime (clocks_after t b B) p c
        → IsInTime (clocks_after t b (B ++ e ∷ [])) p c
    one_more B e legal h =
        let s = clocks_after t b B in
        let own = IsOwn-last t network B e legal in
        let numbers = (Legal-last t B e legal).numbers in
        let places = have_places t b B in
        let grows = latest_grows t p s e in
        let m = next_latest t p s e in
        let at_most : (n : ℕ) → n ≤ latest_of s p → n ≤ m = λ n less. omega (arith, less, grows) in
        let now = latest_then t s e places numbers p in
        let after_e : IsInTime (clocks_with_event t s e) p c =
        record {
          written = λ k. subst (λ n. get_or (written_of (clocks_with_event t s e) c) k 0 ≤ n) (sym now)
              (subst (λ xs. get_or xs k 0 ≤ m) (sym (written_then t s e places numbers c))
              (writes_in_time t s p c writes e own (λ j. at_most _ (h.written j)) k));
          read = λ k. subst (λ n. get_or (read_of (clocks_with_event t s e) c) k 0 ≤ n) (sym now)
              (subst (λ xs. get_or xs k 0 ≤ m) (sym (read_then t s e places numbers c))
              (reads_in_time t s c none e own m (at_most _ (h.written (length (read_of s c))))
              (λ j. at_most _ (h.read j)) k));
        } in
        subst (λ x. IsInTime x p c) (sym (clocks_push t b B e)) after_e

-- ---- how many capacities

capacity_at_put : (t : Tables) (c p : ℕ) → writer_of t c ≡ Process p → (s : Clocks) (e : Event) → IsOwn t e
    → length (capacity_in c s e) ≡ length (written_in c e)
capacity_at_put t c p writes s (Put q d v) own = one_each (eqb d c) (get_or s.capacities d None) v
capacity_at_put t c p writes s (Feed d v) own = sym (ap length (none_elsewhere d c v (no_source t c d p writes own)))
capacity_at_put t c p writes s e own = refl

pub capacities_counted : (t : Tables) → IsNetwork t → (b : Bool) (c p : ℕ) → writer_of t c ≡ Process p
    → (H : List Event) → Legal t H → length (capacities_of t b H c) ≡ length (written_on H c)
capacities_counted t network b c p writes =
    by_events t (λ H. length (capacities_of t b H c) ≡ length (written_on H c)) refl
    (λ B e legal h.
    let s = clocks_after t b B in
    ap length (seen_push (capacity_in c) t b B e) ∙ length-append (capacities_of t b B c) (capacity_in c s e)
    ∙ ap (λ n. n + length (capacity_in c s e)) h
    ∙ ap (λ n. length (written_on B c) + n) (capacity_at_put t c p writes s e (IsOwn-last t network B e legal))
    ∙ sym (ap length (written_on-push B e c) ∙ length-append (written_on B c) (written_in c e)))
