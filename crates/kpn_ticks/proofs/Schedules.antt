-- The ticks of a legal history come from what its processes say, and from the capacities at their puts.
use Rattle.kpn_ticks.proofs.Common.{◌≡◌, ◌≢◌, ℕ, ◌+◌, ◌-◌, ◌<◌, ◌≤◌, max, Bool, true, nat_lt, cond, eqb, eq-eqb, ℤ, List, [], ◌∷◌, ◌++◌, length, get_or, Option, Some, None, refl, sym, ap, ◌∙◌, subst, inl, inr, arith, ne_eqb, eqb_tells, append-nil, Said, IsPrefix, got_at, put_at, IsPrefix-refl, IsPrefix-trans, IsPrefix-append, End, Process, Source, Sink, Tables, writer_of, reader_of, IsNetwork, Event, Get, Put, Feed, Take, said_in, talk_of, has_ended, Legal, IsOwn, talk_of-push, Legal-prefix, Legal-before, by_events, IsOwn-last, said_by, no_source, no_sink, Clocks, latest_of, latest_at, written_of, read_of, item_there, room_there, get_tick, put_tick, start, clocks_after, tick_in, ticks_of, capacity_in, capacities_of, DifferBySchedule}
use Rattle.kpn_lang.specs.declared.talk.Said.TheVariants as said
use Rattle.kpn_ticks.proofs.Counting.{room_from}
use Rattle.kpn_ticks.proofs.Seen.{seen, seen_push, seen_grows, seen_length, wrote, took, written_seen, read_seen, last_tick, latest_seen}
use Rattle.kpn_ticks.proofs.Meeting.{same_beginning, same_next, at_beginning, goes_on, says_one, event_of, one_event, same_room}
use Rattle.kpn_ticks.proofs.Rooms.{one_each, written_length, puts_counted, gets_counted, item_lies, reader_ended, says_no_more, talk_begins, reads_no_more, not_source, not_sink, fed_at_start, in_time, capacities_counted}

-- ---- what two histories share

-- the lists of ticks so far begin those of the other history
pub record Agree (t : Tables) (b : Bool) (B G : List Event) : Type 0 where
  pub ticks : (p : ℕ) → IsPrefix (ticks_of t b B p) (ticks_of t b G p)
  pub written : (c q : ℕ) → writer_of t c ≡ Process q → IsPrefix (seen (wrote t c) t b B) (seen (wrote t c) t b G)
  pub read : (c q : ℕ) → reader_of t c ≡ Process q → IsPrefix (seen (took t c) t b B) (seen (took t c) t b G)

-- H comes after B to an event of p to which G comes after D
pub record DoMeet (t : Tables) (b : Bool) (H G B D : List Event) (e : Event) (p : ℕ) : Type 0 where
  pub network : IsNetwork t
  pub legal : Legal t H
  pub legal_other : Legal t G
  pub alike : DifferBySchedule t b H G
  pub agree : Agree t b B G
  pub here : IsPrefix (B ++ e ∷ []) H
  pub there : IsPrefix (D ++ e ∷ []) G
  pub talk : talk_of B p ≡ talk_of D p

one_tick_each : (t : Tables) (p : ℕ) (s : Clocks) (e : Event) → length (tick_in t p s e) ≡ length (said_in p e)
one_tick_each t p s (Get q c v) = one_each (eqb q p) (get_tick s q c) (said.Got c v)
one_tick_each t p s (Put q c v) = one_each (eqb q p) (put_tick t s q c) (said.Put c v)
one_tick_each t p s e = refl

ticks_counted : (t : Tables) (b : Bool) (H : List Event) (p : ℕ) → length (ticks_of t b H p) ≡ length (talk_of H p)
ticks_counted t b H p = seen_length (tick_in t p) (said_in p) (one_tick_each t p) t (start t b) H

module _ (t : Tables) (b : Bool) (H G B D : List Event) (e : Event) (p : ℕ) (m : DoMeet t b H G B D e p) where
  legal_here : Legal t (B ++ e ∷ [])
  legal_here = Legal-prefix t (B ++ e ∷ []) H m.here m.legal

  legal_there : Legal t (D ++ e ∷ [])
  legal_there = Legal-prefix t (D ++ e ∷ []) G m.there m.legal_other

  before_here : Legal t B
  before_here = Legal-before t B e legal_here

  before_there : Legal t D
  before_there = Legal-before t D e legal_there

  begins_here : IsPrefix B H
  begins_here = IsPrefix-trans B (B ++ e ∷ []) H (IsPrefix-append B (e ∷ [])) m.here

  begins_there : IsPrefix D G
  begins_there = IsPrefix-trans D (D ++ e ∷ []) G (IsPrefix-append D (e ∷ [])) m.there

  same_ticks : (q : ℕ) → talk_of B q ≡ talk_of D q → ticks_of t b B q ≡ ticks_of t b D q
  same_ticks q talk =
      same_beginning (ticks_of t b B q) (ticks_of t b D q) (ticks_of t b G q) (m.agree.ticks q)
      (seen_grows (tick_in t q) t b D G begins_there)
      (ticks_counted t b B q ∙ ap length talk ∙ sym (ticks_counted t b D q))

  same_latest : (q : ℕ) → talk_of B q ≡ talk_of D q
      → latest_of (clocks_after t b B) q ≡ latest_of (clocks_after t b D) q
  same_latest q talk =
      latest_seen t b q B before_here ∙ ap (last_tick 0) (same_ticks q talk) ∙ sym (latest_seen t b q D before_there)

  same_gets : (c : ℕ) → reader_of t c ≡ Process p
      → length (read_of (clocks_after t b B) c) ≡ length (read_of (clocks_after t b D) c)
  same_gets c reads =
      gets_counted t m.network b c p reads B before_here ∙ ap (λ xs. length (got_at xs c)) m.talk
      ∙ sym (gets_counted t m.network b c p reads D before_there)

  same_puts : (c : ℕ) → writer_of t c ≡ Process p
      → length (written_of (clocks_after t b B) c) ≡ length (written_of (clocks_after t b D) c)
  same_puts c writes =
      puts_counted t m.network b c p writes B before_here ∙ ap (λ xs. length (put_at xs c)) m.talk
      ∙ sym (puts_counted t m.network b c p writes D before_there)

-- ---- gets

item_begins : (t : Tables) (b : Bool) (B G : List Event) (p c : ℕ) (v : ℤ) → Legal t (B ++ Get p c v ∷ [])
    → IsPrefix (seen (wrote t c) t b B) (seen (wrote t c) t b G)
    → item_there (clocks_after t b B) c
    ≡ get_or (seen (wrote t c) t b G) (length (read_of (clocks_after t b B) c)) 0
item_begins t b B G p c v legal begins =
    let s = clocks_after t b B in
    let k = length (read_of s c) in
    let is = written_seen t b c B (Legal-before t B (Get p c v) legal) in
    ap (λ xs. get_or xs k 0) is
    ∙ at_beginning (seen (wrote t c) t b B) (seen (wrote t c) t b G) k 0 begins
    (subst (λ xs. k < length xs) is (item_lies t b B p c v legal))

same_item : (t : Tables) (b : Bool) (H G B D : List Event) (p c : ℕ) (v : ℤ)
    → DoMeet t b H G B D (Get p c v) p → item_there (clocks_after t b B) c ≡ item_there (clocks_after t b D) c
same_item t b H G B D p c v m = by_writer (writer_of t c) refl
  where
    from_outside : ((q : ℕ) → writer_of t c ≢ Process q)
        → item_there (clocks_after t b B) c ≡ item_there (clocks_after t b D) c
    from_outside none =
        let here = fed_at_start t m.network b c none B (before_here t b H G B D (Get p c v) p m)
        (length (read_of (clocks_after t b B) c)) in
        let there = fed_at_start t m.network b c none D (before_there t b H G B D (Get p c v) p m)
        (length (read_of (clocks_after t b D) c)) in
        omega (arith, here, there)

    by_writer : (end : End) → writer_of t c ≡ end
        → item_there (clocks_after t b B) c ≡ item_there (clocks_after t b D) c
    by_writer (Process q) is =
        item_begins t b B G p c v (legal_here t b H G B D (Get p c v) p m) (m.agree.written c q is)
        ∙ ap (λ k. get_or (seen (wrote t c) t b G) k 0)
        (same_gets t b H G B D (Get p c v) p m c
        (IsOwn-last t m.network B (Get p c v) (legal_here t b H G B D (Get p c v) p m)))
        ∙ sym (item_begins t b D G p c v (legal_there t b H G B D (Get p c v) p m)
        (seen_grows (wrote t c) t b D G (begins_there t b H G B D (Get p c v) p m)))
    by_writer Source is = from_outside (not_source (writer_of t c) is)
    by_writer Sink is = from_outside (not_sink (writer_of t c) is)

same_get : (t : Tables) (b : Bool) (H G B D : List Event) (p c : ℕ) (v : ℤ) → DoMeet t b H G B D (Get p c v) p
    → get_tick (clocks_after t b B) p c ≡ get_tick (clocks_after t b D) p c
same_get t b H G B D p c v m =
    ap (λ n. max n (item_there (clocks_after t b B) c) + 1) (same_latest t b H G B D (Get p c v) p m p m.talk)
    ∙ ap (λ n. max (latest_of (clocks_after t b D) p) n + 1) (same_item t b H G B D p c v m)

-- ---- puts

-- the capacities of a channel up to a put on it
capacities_pushed : (t : Tables) (b : Bool) (B : List Event) (p c : ℕ) (v : ℤ)
    → capacities_of t b (B ++ Put p c v ∷ []) c
    ≡ capacities_of t b B c ++ get_or (clocks_after t b B).capacities c None ∷ []
capacities_pushed t b B p c v =
    seen_push (capacity_in c) t b B (Put p c v)
    ∙ ap (λ x. capacities_of t b B c ++ cond x (get_or (clocks_after t b B).capacities c None ∷ []) [])
    (eq-eqb c c refl)

room_of_length : (cap : Option ℕ) (written other read : List ℕ) (x : ℕ) → length written ≡ length other
    → room_there cap written read x ≡ room_there cap other read x
room_of_length None written other read x is = refl
room_of_length (Some cap) written other read x is = ap (λ n. cond (nat_lt n cap) 0 (get_or read (n - cap) x)) is

-- when there is room on a channel, if its reader is this
abbrev room_for : (s : Clocks) (c : ℕ) → End → ℕ
room_for s c end = room_there (get_or s.capacities c None) (written_of s c) (read_of s c) (latest_at s end)

module _ (t : Tables) (b : Bool) (H G B D : List Event) (p c : ℕ) (v : ℤ) (m : DoMeet t b H G B D (Put p c v) p) where
  put_here : Legal t (B ++ Put p c v ∷ [])
  put_here = legal_here t b H G B D (Put p c v) p m

  put_there : Legal t (D ++ Put p c v ∷ [])
  put_there = legal_there t b H G B D (Put p c v) p m

  legal_B : Legal t B
  legal_B = before_here t b H G B D (Put p c v) p m

  legal_D : Legal t D
  legal_D = before_there t b H G B D (Put p c v) p m

  begins_B : IsPrefix B H
  begins_B = begins_here t b H G B D (Put p c v) p m

  begins_D : IsPrefix D G
  begins_D = begins_there t b H G B D (Put p c v) p m

  writes : writer_of t c ≡ Process p
  writes = IsOwn-last t m.network B (Put p c v) put_here

  as_many : length (written_of (clocks_after t b B) c) ≡ length (written_of (clocks_after t b D) c)
  as_many = same_puts t b H G B D (Put p c v) p m c writes

  same_capacity : get_or (clocks_after t b B).capacities c None ≡ get_or (clocks_after t b D).capacities c None
  same_capacity =
      same_next (capacities_of t b B c) (capacities_of t b D c) (capacities_of t b G c)
      (get_or (clocks_after t b B).capacities c None) (get_or (clocks_after t b D).capacities c None)
      (subst (λ xs. IsPrefix xs (capacities_of t b G c)) (capacities_pushed t b B p c v)
      (subst (λ xs. IsPrefix (capacities_of t b (B ++ Put p c v ∷ []) c) xs) (m.alike.capacities c)
      (seen_grows (capacity_in c) t b (B ++ Put p c v ∷ []) H m.here)))
      (subst (λ xs. IsPrefix xs (capacities_of t b G c)) (capacities_pushed t b D p c v)
      (seen_grows (capacity_in c) t b (D ++ Put p c v ∷ []) G m.there))
      (capacities_counted t m.network b c p writes B legal_B ∙ sym (written_length t b c B legal_B) ∙ as_many
      ∙ written_length t b c D legal_D ∙ sym (capacities_counted t m.network b c p writes D legal_D))

  -- there is room in time if the caller reads the channel
  in_time_for : (X : List Event) → Legal t X → ((q : ℕ) → reader_of t c ≢ Process q)
      → room_for (clocks_after t b X) c Sink ≤ latest_of (clocks_after t b X) p
  in_time_for X legal none =
      let s = clocks_after t b X in
      room_from (get_or s.capacities c None) (written_of s c) (read_of s c) 0 (latest_of s p)
      (in_time t m.network b p c writes none X legal).read (omega arith)

  ended_here : (q k : ℕ) → reader_of t c ≡ Process q → get_or (clocks_after t b B).capacities c None ≡ Some k
      → k + length (read_of (clocks_after t b B) c) ≤ length (written_of (clocks_after t b B) c)
      → has_ended B q ≡ true
  ended_here q k reads has full = reader_ended t b B p c q k v put_here reads has full

  ended_there : (q k : ℕ) → reader_of t c ≡ Process q → get_or (clocks_after t b B).capacities c None ≡ Some k
      → k + length (read_of (clocks_after t b D) c) ≤ length (written_of (clocks_after t b B) c)
      → has_ended D q ≡ true
  ended_there q k reads has full =
      reader_ended t b D p c q k v put_there reads (sym same_capacity ∙ has)
      (subst (λ n. k + length (read_of (clocks_after t b D) c) ≤ n) as_many full)

  -- two readers that have ended did so at the same tick
  ended_alike : (q : ℕ) → has_ended B q ≡ true → has_ended D q ≡ true
      → latest_of (clocks_after t b B) q ≡ latest_of (clocks_after t b D) q
  ended_alike q here there =
      same_latest t b H G B D (Put p c v) p m q
      (sym (says_no_more t B H q m.legal begins_B here) ∙ m.alike.talks q
      ∙ says_no_more t D G q m.legal_other begins_D there)

  room_of_process : (q : ℕ) → reader_of t c ≡ Process q
      → room_for (clocks_after t b B) c (Process q) ≡ room_for (clocks_after t b D) c (Process q)
  room_of_process q reads =
      let s = clocks_after t b B in
      let r = clocks_after t b D in
      let whole = seen (took t c) t b G in
      same_room (get_or s.capacities c None) (written_of s c) (read_of s c) (read_of r c) whole (latest_of s q)
      (latest_of r q)
      (subst (λ xs. IsPrefix xs whole) (sym (read_seen t b c B legal_B)) (m.agree.read c q reads))
      (subst (λ xs. IsPrefix xs whole) (sym (read_seen t b c D legal_D)) (seen_grows (took t c) t b D G begins_D))
      (λ k has full.
      reads_no_more t m.network b H G B D c q reads m.legal legal_B legal_D begins_B begins_D (m.alike.talks q)
      (ended_here q k reads has full))
      (λ k has full.
      reads_no_more t m.network b G H D B c q reads m.legal_other legal_D legal_B begins_D begins_B
      (sym (m.alike.talks q)) (ended_there q k reads has full))
      (λ k has full other. ended_alike q (ended_here q k reads has full) (ended_there q k reads has other))
      ∙ ap (λ cap. room_there cap (written_of s c) (read_of r c) (latest_of r q)) same_capacity
      ∙ room_of_length (get_or r.capacities c None) (written_of s c) (written_of r c) (read_of r c) (latest_of r q)
      as_many

  room_of_outside : ((q : ℕ) → reader_of t c ≢ Process q)
      → max (latest_of (clocks_after t b B) p) (room_for (clocks_after t b B) c Sink)
      ≡ max (latest_of (clocks_after t b D) p) (room_for (clocks_after t b D) c Sink)
  room_of_outside none =
      let here = in_time_for B legal_B none in
      let there = in_time_for D legal_D none in
      let same = same_latest t b H G B D (Put p c v) p m p m.talk in
      omega (arith, here, there, same)

  same_put_for : (end : End) → reader_of t c ≡ end
      → max (latest_of (clocks_after t b B) p) (room_for (clocks_after t b B) c end)
      ≡ max (latest_of (clocks_after t b D) p) (room_for (clocks_after t b D) c end)
  same_put_for (Process q) is =
      ap (λ n. max n (room_for (clocks_after t b B) c (Process q)))
      (same_latest t b H G B D (Put p c v) p m p m.talk)
      ∙ ap (λ n. max (latest_of (clocks_after t b D) p) n) (room_of_process q is)
  same_put_for Source is = room_of_outside (not_source (reader_of t c) is)
  same_put_for Sink is = room_of_outside (not_sink (reader_of t c) is)

  same_put : put_tick t (clocks_after t b B) p c ≡ put_tick t (clocks_after t b D) p c
  same_put = ap (λ n. n + 1) (same_put_for (reader_of t c) refl)

-- ---- one event more

extends : {A : Type 0} (see : Clocks → Event → List A) (t : Tables) (b : Bool) (B D G : List Event) (e : Event)
    → IsPrefix (seen see t b B) (seen see t b G) → IsPrefix (D ++ e ∷ []) G
    → length (seen see t b B) ≡ length (seen see t b D)
    → see (clocks_after t b B) e ≡ see (clocks_after t b D) e
    → IsPrefix (seen see t b (B ++ e ∷ [])) (seen see t b G)
extends see t b B D G e begins there long shown =
    let other = IsPrefix-trans D (D ++ e ∷ []) G (IsPrefix-append D (e ∷ [])) there in
    let same =
    same_beginning (seen see t b B) (seen see t b D) (seen see t b G) begins (seen_grows see t b D G other) long in
    subst (λ xs. IsPrefix xs (seen see t b G))
    (seen_push see t b D e ∙ ap (λ xs. xs ++ see (clocks_after t b D) e) (sym same)
    ∙ ap (λ xs. seen see t b B ++ xs) (sym shown) ∙ sym (seen_push see t b B e))
    (seen_grows see t b (D ++ e ∷ []) G there)

stays : {A : Type 0} (see : Clocks → Event → List A) (t : Tables) (b : Bool) (B G : List Event) (e : Event)
    → IsPrefix (seen see t b B) (seen see t b G) → see (clocks_after t b B) e ≡ []
    → IsPrefix (seen see t b (B ++ e ∷ [])) (seen see t b G)
stays see t b B G e begins none =
    subst (λ xs. IsPrefix xs (seen see t b G))
    (sym (seen_push see t b B e ∙ ap (λ xs. seen see t b B ++ xs) none ∙ append-nil (seen see t b B))) begins

agree_get : (t : Tables) (b : Bool) (H G B D : List Event) (p c : ℕ) (v : ℤ) → DoMeet t b H G B D (Get p c v) p
    → Agree t b (B ++ Get p c v ∷ []) G
agree_get t b H G B D p c v m =
    let e = Get p c v in
    let tick = same_get t b H G B D p c v m in
    let reads = IsOwn-last t m.network B e (legal_here t b H G B D e p m) in
    record {
      ticks = λ q. elim (eqb_tells p q) [
        | inl same ↦
            extends (tick_in t q) t b B D G e (m.agree.ticks q) m.there
            (ap length (same_ticks t b H G B D e p m q (subst (λ x. talk_of B x ≡ talk_of D x) same.1 m.talk)))
            (ap (λ n. cond (eqb p q) (n ∷ []) []) tick)
        | inr differ ↦
            stays (tick_in t q) t b B G e (m.agree.ticks q)
            (ap (λ x. cond x (get_tick (clocks_after t b B) p c ∷ []) []) differ.0)
      ];
      written = λ d q is. stays (wrote t d) t b B G e (m.agree.written d q is) refl;
      read = λ d q is. elim (eqb_tells c d) [
        | inl same ↦
            extends (took t d) t b B D G e (m.agree.read d q is) m.there
            (sym (ap length (read_seen t b d B (before_here t b H G B D e p m)))
            ∙ subst (λ x. length (read_of (clocks_after t b B) x) ≡ length (read_of (clocks_after t b D) x)) same.1
            (same_gets t b H G B D e p m c reads)
            ∙ ap length (read_seen t b d D (before_there t b H G B D e p m)))
            (ap (λ n. cond (eqb c d) (n ∷ []) []) tick)
        | inr differ ↦
            stays (took t d) t b B G e (m.agree.read d q is)
            (ap (λ x. cond x (get_tick (clocks_after t b B) p c ∷ []) []) differ.0)
      ];
    }

agree_put : (t : Tables) (b : Bool) (H G B D : List Event) (p c : ℕ) (v : ℤ) → DoMeet t b H G B D (Put p c v) p
    → Agree t b (B ++ Put p c v ∷ []) G
agree_put t b H G B D p c v m =
    let e = Put p c v in
    let tick = same_put t b H G B D p c v m in
    record {
      ticks = λ q. elim (eqb_tells p q) [
        | inl same ↦
            extends (tick_in t q) t b B D G e (m.agree.ticks q) m.there
            (ap length (same_ticks t b H G B D e p m q (subst (λ x. talk_of B x ≡ talk_of D x) same.1 m.talk)))
            (ap (λ n. cond (eqb p q) (n ∷ []) []) tick)
        | inr differ ↦
            stays (tick_in t q) t b B G e (m.agree.ticks q)
            (ap (λ x. cond x (put_tick t (clocks_after t b B) p c ∷ []) []) differ.0)
      ];
      written = λ d q is. elim (eqb_tells c d) [
        | inl same ↦
            extends (wrote t d) t b B D G e (m.agree.written d q is) m.there
            (sym (ap length (written_seen t b d B (before_here t b H G B D e p m)))
            ∙ subst (λ x. length (written_of (clocks_after t b B) x) ≡ length (written_of (clocks_after t b D) x))
            same.1 (as_many t b H G B D p c v m)
            ∙ ap length (written_seen t b d D (before_there t b H G B D e p m)))
            (ap (λ n. cond (eqb c d) (n ∷ []) []) tick)
        | inr differ ↦
            stays (wrote t d) t b B G e (m.agree.written d q is)
            (ap (λ x. cond x (put_tick t (clocks_after t b B) p c ∷ []) []) differ.0)
      ];
      read = λ d q is. stays (took t d) t b B G e (m.agree.read d q is) refl;
    }

-- the other history comes to what a process says next
meets : (t : Tables) → IsNetwork t → (b : Bool) (H G : List Event) → Legal t H → Legal t G → DifferBySchedule t b H G
    → (B : List Event) (p : ℕ) (spoken : Said) → said_in p (event_of p spoken) ≡ spoken ∷ []
    → IsPrefix (B ++ event_of p spoken ∷ []) H → Agree t b B G
    → (D : List Event) × DoMeet t b H G B D (event_of p spoken) p
meets t network b H G legal other alike B p spoken says begins agree =
    let e = event_of p spoken in
    let r = goes_on (said_in p) (says_one p) G (talk_of B p) spoken
    (subst (λ xs. IsPrefix xs (talk_of G p)) (talk_of-push B e p ∙ ap (λ xs. talk_of B p ++ xs) says)
    (subst (λ xs. IsPrefix (talk_of (B ++ e ∷ []) p) xs) (alike.talks p) (talk_begins p (B ++ e ∷ []) H begins))) in (
      r.before,
      record {
        network = network;
        legal = legal;
        legal_other = other;
        alike = alike;
        agree = agree;
        here = begins;
        there = subst (λ x. IsPrefix (r.before ++ x ∷ []) G) (one_event p r.event spoken r.says) r.there;
        talk = sym r.so_far;
      },
    )

agree_then : (t : Tables) → IsNetwork t → (b : Bool) (H G : List Event) → Legal t H → Legal t G
    → DifferBySchedule t b H G → (B : List Event) (e : Event) → IsOwn t e → IsPrefix (B ++ e ∷ []) H → Agree t b B G
    → Agree t b (B ++ e ∷ []) G
agree_then t network b H G legal other alike B (Get p c v) own begins agree =
    let met =
    meets t network b H G legal other alike B p (said.Got c v) (said_by p p (said.Got c v) refl) begins agree in
    agree_get t b H G B met.0 p c v met.1
agree_then t network b H G legal other alike B (Put p c v) own begins agree =
    let met =
    meets t network b H G legal other alike B p (said.Put c v) (said_by p p (said.Put c v) refl) begins agree in
    agree_put t b H G B met.0 p c v met.1
agree_then t network b H G legal other alike B (Feed d v) own begins agree =
    record {
      ticks = λ q. stays (tick_in t q) t b B G (Feed d v) (agree.ticks q) refl;
      written = λ c q is.
          stays (wrote t c) t b B G (Feed d v) (agree.written c q is)
          (ap (λ x. cond x (0 ∷ []) []) (ne_eqb d c (no_source t c d q is own)));
      read = λ c q is. stays (took t c) t b B G (Feed d v) (agree.read c q is) refl;
    }
agree_then t network b H G legal other alike B (Take d v) own begins agree =
    record {
      ticks = λ q. stays (tick_in t q) t b B G (Take d v) (agree.ticks q) refl;
      written = λ c q is. stays (wrote t c) t b B G (Take d v) (agree.written c q is) refl;
      read = λ c q is.
          stays (took t c) t b B G (Take d v) (agree.read c q is)
          (ap (λ x. cond x (item_there (clocks_after t b B) d ∷ []) []) (ne_eqb d c (no_sink t c d q is own)));
    }
agree_then t network b H G legal other alike B e own begins agree =
    record {
      ticks = λ q. stays (tick_in t q) t b B G e (agree.ticks q) refl;
      written = λ c q is. stays (wrote t c) t b B G e (agree.written c q is) refl;
      read = λ c q is. stays (took t c) t b B G e (agree.read c q is) refl;
    }

-- ---- whole histories

pub same_ticks_of : (t : Tables) → IsNetwork t → (b : Bool) (H G : List Event) → Legal t H → Legal t G
    → DifferBySchedule t b H G → (p : ℕ) → ticks_of t b H p ≡ ticks_of t b G p
same_ticks_of t network b H G legal other alike p =
    let all = by_events t (λ B. IsPrefix B H → Agree t b B G)
    (λ begins. record { ticks = λ q. tt; written = λ c q is. tt; read = λ c q is. tt })
    (λ B e legal_e h begins.
    agree_then t network b H G legal other alike B e (IsOwn-last t network B e legal_e) begins
    (h (IsPrefix-trans B (B ++ e ∷ []) H (IsPrefix-append B (e ∷ [])) begins))) H legal (IsPrefix-refl H) in
    same_beginning (ticks_of t b H p) (ticks_of t b G p) (ticks_of t b G p) (all.ticks p)
    (IsPrefix-refl (ticks_of t b G p))
    (ticks_counted t b H p ∙ ap length (alike.talks p) ∙ sym (ticks_counted t b G p))
