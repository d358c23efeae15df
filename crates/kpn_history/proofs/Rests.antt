-- Where a process rests: on its end, or on a wait that lasts. What it said by then bounds what it says in other
-- histories on the same lists, and in two histories in which it said the same it rests alike.
use Rattle.kpn_history.proofs.Common.{Contains, cases_Bool, both_ways, eqb-true, or_left, or_right, get_or_default, Contains-push_cases, Said, Ending, IsPrefix, got_at, put_at, Process, Nobody, Empty, Full, Tables, instance_at, program_of, reader_of, writer_of, IsNetwork, Family, IsFamilyPrefix, AgreeOnIns, at_channel, ends_at_channel, ran_on, talk_on, ProcessCanSay, ProcessComesTo, iterate, IsPrefixOnSources, How, Event, WaitEmpty, WaitFull, Ended, is_of, last_event, said_in, talk_of, how_of, is_end_of, has_ended, read_in, written_on, read_on, fed, is_empty, is_full, wait_of_last, wait_of, wait_made, ending_of, Legal, HasStopped, IsHalt, IsPrefix-trans, IsPrefix-same, IsPrefix-refl, length_of_prefix, prefix_of_push, prefix_after, put_at-append, put_at-prefix, IsSequential-alone, Contains-none, talk_on-grows, iterate-grows, Reads, reader_of-Reads, writer_of-Writes}
use Rattle.std.proofs.Common.{◌≡◌, ℕ, ◌<◌, ◌≤◌, ◌⊎◌, max, ℤ, true, cond, eq-eqb, List, [], ◌∷◌, ◌++◌, length, map, Some, refl, sym, ap, ◌∙◌, subst, inl, inr, arith, length-append}
use Rattle.kpn_lang.specs.declared.talk.Said.TheVariants as said
use Rattle.kpn_lang.specs.declared.talk.Ending.TheVariants as ending
use Rattle.kpn_net.proofs.OwnIns.{CanSay-own_ins, ComesTo-own_ins, CanSay-longer, CanSay-comparable}
use Rattle.kpn_history.specs.declared.event.How.TheVariants as how
use Rattle.kpn_history.proofs.Events.{Some-event, last_event-own, last_event-other, flat_map-same, said_in-other, read_on-same}
use Rattle.kpn_history.proofs.Legality.{Legal-last, Legal-consistent, by_events}
use Rattle.kpn_history.proofs.AfterEvent.{has_ended-next}
use Rattle.kpn_history.proofs.Running.{IsLast, talk_settled-last, talk_settled-starved}
use Rattle.kpn_history.proofs.Ownership.{Owns-last}
use Rattle.kpn_history.proofs.Journals.{written_on-put, read_on-got, read_in-other, reads_begin_writes}
use Rattle.kpn_history.proofs.Above.{IsLast-ending_of, empty_wait}
use Rattle.kpn_history.proofs.WaitsAfter.{IsOwnEvent, last_is_own, alive_before}
use Rattle.kpn_history.proofs.Kahn.{below_one_iterate}
use Rattle.kpn_history.proofs.Complete.{with_list, with_list-here, below_with_list}
use Rattle.kpn_history.proofs.EndsOnce.{ended_by, end_among}
use Rattle.kpn_history.proofs.Growth.{full_wait}

-- ---- where a process rests

-- the end of a process, or a wait that lasts
abbrev pub IsRest : Tables → List Event → Event → Type 0
IsRest t H (WaitEmpty p c) = is_empty H c ≡ true
IsRest t H (WaitFull p c) = is_full t H c ≡ true
IsRest t H (Ended p how) = Unit {0}
IsRest t H event = ⊥

-- a process rests on its last event
pub record Rests (t : Tables) (H : List Event) (p : ℕ) (e : Event) : Type 0 where
  pub last : last_event H p ≡ Some e
  pub is : IsRest t H e

-- it is a wait or an end
pub rest_halts : (t : Tables) (H : List Event) (e : Event) → IsRest t H e → IsHalt e
rest_halts t H (WaitEmpty p c) is = tt
rest_halts t H (WaitFull p c) is = tt
rest_halts t H (Ended p how) is = tt
rest_halts t H event is = absurd is

-- what it waits for then
pub rest_waits : (t : Tables) (H : List Event) (p : ℕ) (e : Event) → Rests t H p e → wait_of t H p ≡ wait_made e
rest_waits t H p e r = ap (wait_of_last t H) r.last ∙ by_event e r.is
  where
    by_event : (f : Event) → IsRest t H f → wait_of_last t H (Some f) ≡ wait_made f
    by_event (WaitEmpty q c) is = ap (λ b. cond b (Empty c) Nobody) is
    by_event (WaitFull q c) is = ap (λ b. cond b (Full c) Nobody) is
    by_event event is = refl

-- the end of a process is its last event
pub last_if_ended : (t : Tables) (p : ℕ) (how : How) (H : List Event) → Legal t H → Contains H (Ended p how)
    → last_event H p ≡ Some (Ended p how)
last_if_ended t p how =
    by_events t (λ H. Contains H (Ended p how) → last_event H p ≡ Some (Ended p how))
    (λ h. absurd (Contains-none (Ended p how) h))
    (λ B e legal before h. elim (cases_Bool (is_of p e)) [
      | inl own ↦ elim (Contains-push_cases B e (Ended p how) h) [
        | inl old ↦
            absurd (both_ways (has_ended B p) (alive_before t B e legal p own) (ended_by B p how old))
        | inr same ↦ last_event-own B e p own ∙ ap Some same
      ]
      | inr other ↦ elim (Contains-push_cases B e (Ended p how) h) [
        | inl old ↦ last_event-other B e p other ∙ before old
        | inr same ↦ absurd (both_ways (is_of p e) other (ap (is_of p) same ∙ eq-eqb p p refl))
      ]
    ])

pub ends_last : (t : Tables) (p : ℕ) (H : List Event) → Legal t H → has_ended H p ≡ true
    → (how : How) × (last_event H p ≡ Some (Ended p how))
ends_last t p H legal ended = let end = end_among H p ended in (end.0, last_if_ended t p end.0 H legal end.1)

-- and a process whose last event is an end has ended
pub ended_if_last : (t : Tables) (p : ℕ) (H : List Event) → Legal t H → (q : ℕ) (how : How)
    → last_event H p ≡ Some (Ended q how) → has_ended H p ≡ true
ended_if_last t p =
    by_events t (λ H. (q : ℕ) (how : How) → last_event H p ≡ Some (Ended q how) → has_ended H p ≡ true)
    (λ q how is. absurd cc)
    (λ B e legal h q how is. elim (cases_Bool (is_of p e)) [
      | inl own ↦
          let same = Some-event e (Ended q how) (sym (last_event-own B e p own) ∙ is) in
          has_ended-next B e p
          ∙ or_right (has_ended B p) (is_end_of p e)
          (ap (is_end_of p) same ∙ subst (λ f. is_of p f ≡ true) same own)
      | inr other ↦
          has_ended-next B e p
          ∙ or_left (has_ended B p) (is_end_of p e) (h q how (sym (last_event-other B e p other) ∙ is))
    ])

-- a process that has ended or is blocked rests
pub rests_if_stopped : (t : Tables) (H : List Event) → Legal t H → (p : ℕ) → HasStopped t H p
    → (e : Event) × Rests t H p e
rests_if_stopped t H legal p (inl ended) =
    let r = ends_last t p H legal ended in (Ended p r.0, record { last = r.1; is = tt })
rests_if_stopped t H legal p (inr (inl waits)) =
    let w = empty_wait t H (last_event H p) waits.channel waits.blocked in
    (WaitEmpty w.process waits.channel, record { last = w.is; is = w.empty })
rests_if_stopped t H legal p (inr (inr waits)) =
    let w = full_wait t H (last_event H p) waits.channel waits.blocked in
    (WaitFull w.process waits.channel, record { last = w.is; is = w.full })

-- ---- what it comes to there

-- on these lists and after this talk, the process comes to this end or to this read without an item, or can write here
abbrev pub ComesToRest : Tables → (p : ℕ) → Family → List Said → Event → Type 0
ComesToRest t p X talk (WaitEmpty q c) = ProcessComesTo t p X (ending.Starved c) talk
ComesToRest t p X talk (WaitFull q c) = (v : ℤ) × ProcessCanSay t p X (talk ++ said.Put c v ∷ [])
ComesToRest t p X talk (Ended q how) = ProcessComesTo t p X (ending_of how) talk
ComesToRest t p X talk event = Unit {0}

rest-own_ins : (t : Tables) (p : ℕ) (X Y : Family) → AgreeOnIns t p X Y → (talk : List Said) (e : Event)
    → ComesToRest t p X talk e → ComesToRest t p Y talk e
rest-own_ins t p X Y agree talk (WaitEmpty q c) h = ComesTo-own_ins t p X Y agree (ending.Starved c) talk h
rest-own_ins t p X Y agree talk (WaitFull q c) h =
    (h.0, CanSay-own_ins t p X Y agree (talk ++ said.Put c h.0 ∷ []) h.1)
rest-own_ins t p X Y agree talk (Ended q how) h = ComesTo-own_ins t p X Y agree (ending_of how) talk h
rest-own_ins t p X Y agree talk event h = tt

-- a process reads the channels at its in ports
pub reads_if_contained : (t : Tables) (p : ℕ) → p < length t.instances → (c : ℕ) → Contains (instance_at t p).ins c
    → Reads t p c
reads_if_contained t p below c (k, inside, e) =
    record {
      process = below;
      place = record { port = k; there = inside; is = get_or_default (instance_at t p).ins k 0 c inside ∙ e };
    }

module _ (t : Tables) (network : IsNetwork t) (p : ℕ) (below : p < length t.instances) where
  comes_now : (B : List Event) (e : Event) → Legal t (B ++ e ∷ []) → is_of p e ≡ true
      → ComesToRest t p (read_on B) (talk_of B p) e
  comes_now B (WaitEmpty q c) legal own =
      subst (λ x. ProcessComesTo t x (read_on B) (ending.Starved c) (talk_of B x)) (eqb-true q p own)
      (Legal-last t B (WaitEmpty q c) legal).due.1.starved
  comes_now B (WaitFull q c) legal own =
      let comes = (Legal-last t B (WaitFull q c) legal).due.1 in (
        comes.item,
        subst (λ x. ProcessCanSay t x (read_on B) (talk_of B x ++ said.Put c comes.item ∷ [])) (eqb-true q p own)
            comes.next,
      )
  comes_now B (Ended q how) legal own =
      subst (λ x. ProcessComesTo t x (read_on B) (ending_of how) (talk_of B x)) (eqb-true q p own)
      (Legal-last t B (Ended q how) legal).due.1
  comes_now B event legal own = tt

  -- an event in which it reads and says nothing changes nothing there
  rest_stays : (B : List Event) (f : Event) → said_in p f ≡ []
      → ((c : ℕ) → reader_of t c ≡ Process p → read_in c f ≡ []) → (e : Event)
      → ComesToRest t p (read_on B) (talk_of B p) e
      → ComesToRest t p (read_on (B ++ f ∷ [])) (talk_of (B ++ f ∷ []) p) e
  rest_stays B f says reads e h =
      subst (λ talk. ComesToRest t p (read_on (B ++ f ∷ [])) talk e) (sym (flat_map-same (said_in p) B f says))
      (rest-own_ins t p (read_on B) (read_on (B ++ f ∷ []))
      (record {
        each = λ c among.
            sym (read_on-same B f c
            (reads c (reader_of-Reads t network p c (reads_if_contained t p below c among))));
      })
      (talk_of B p) e h)

  rest_own : (B : List Event) (e : Event) → Legal t (B ++ e ∷ []) → is_of p e ≡ true
      → ComesToRest t p (read_on (B ++ e ∷ [])) (talk_of (B ++ e ∷ []) p) e
  rest_own B (WaitEmpty q c) legal own =
      rest_stays B (WaitEmpty q c) refl (λ d reads. refl) (WaitEmpty q c) (comes_now B (WaitEmpty q c) legal own)
  rest_own B (WaitFull q c) legal own =
      rest_stays B (WaitFull q c) refl (λ d reads. refl) (WaitFull q c) (comes_now B (WaitFull q c) legal own)
  rest_own B (Ended q how) legal own =
      rest_stays B (Ended q how) refl (λ d reads. refl) (Ended q how) (comes_now B (Ended q how) legal own)
  rest_own B event legal own = tt

  pub came_to_rest : (H : List Event) → Legal t H → (e : Event) → last_event H p ≡ Some e
      → ComesToRest t p (read_on H) (talk_of H p) e
  came_to_rest =
      by_events t
      (λ H. (e : Event) → last_event H p ≡ Some e → ComesToRest t p (read_on H) (talk_of H p) e)
      (λ e is. absurd cc)
      (λ B f legal h e is. elim (cases_Bool (is_of p f)) [
        | inl own ↦
            subst (ComesToRest t p (read_on (B ++ f ∷ [])) (talk_of (B ++ f ∷ []) p))
            (Some-event f e (sym (last_event-own B f p own) ∙ is)) (rest_own B f legal own)
        | inr other ↦
            rest_stays B f (said_in-other p f other)
            (λ c reads. read_in-other t network c p reads f (Owns-last t network B f legal) other) e
            (h e (sym (last_event-other B f p other) ∙ is))
      ])

-- ---- one end on one family

-- with more turns the run is the same
ran_with_more : (t : Tables) (p : ℕ) (X : Family) (end : Ending) (talk : List Said)
    → (h : ProcessComesTo t p X end talk) → (m : ℕ) → h.turns ≤ m → ran_on t p m X ≡ ran_on t p h.turns X
ran_with_more t p X end talk h m more =
    let i = instance_at t p in
    (IsSequential-alone (program_of t p) i.pars).stays h.turns m more (map X i.ins)
    (λ cut. h.whole (sym h.ended ∙ ap (ends_at_channel i) cut))

comes_to_one : (t : Tables) (p : ℕ) (X : Family) (end other : Ending) (talk spoken : List Said)
    → ProcessComesTo t p X end talk → ProcessComesTo t p X other spoken → end ≡ other
comes_to_one t p X end other talk spoken h k =
    let m = max h.turns k.turns in
    let same =
    sym (ran_with_more t p X end talk h m (omega arith)) ∙ ran_with_more t p X other spoken k m (omega arith) in
    sym h.ended ∙ ap (λ ran. ends_at_channel (instance_at t p) ran.ending) same ∙ k.ended

-- a process that has come to an end can say nothing more
says_no_more : (t : Tables) (p : ℕ) (X : Family) (end : Ending) (talk : List Said) (next : Said)
    → ProcessComesTo t p X end talk → ProcessCanSay t p X (talk ++ next ∷ []) → ⊥
says_no_more t p X end talk next h k =
    let m = max h.turns k.turns in
    let whole : talk_on t p m X ≡ talk =
    ap (λ ran. map (at_channel (instance_at t p)) ran.talk) (ran_with_more t p X end talk h m (omega arith)) ∙ h.said in
    let begins : IsPrefix (talk ++ next ∷ []) talk =
    IsPrefix-trans (talk ++ next ∷ []) (talk_on t p k.turns X) talk k.said
    (IsPrefix-trans (talk_on t p k.turns X) (talk_on t p m X) talk
    (talk_on-grows t p k.turns m (omega arith) X X (λ c. IsPrefix-refl (X c)))
    (IsPrefix-same (talk_on t p m X) talk whole)) in
    let longer = length_of_prefix (talk ++ next ∷ []) talk begins in
    let lengths = length-append talk (next ∷ []) in
    omega arith

never_starved : (how : How) (c : ℕ) → ending.Starved c ≡ ending_of how → ⊥
never_starved how c e = subst IsLast (sym e) (IsLast-ending_of how)

abbrev how_from : Ending → How
how_from ending.Done = how.Done
how_from (ending.Faulted fault) = how_of fault
how_from end = how.Done

how_from-ending_of : (way : How) → how_from (ending_of way) ≡ way
how_from-ending_of how.Done = refl
how_from-ending_of how.Overflow = refl
how_from-ending_of how.ZeroDivisor = refl
how_from-ending_of how.Index = refl
how_from-ending_of how.Shift = refl

one_way_to_end : (a b : How) → ending_of a ≡ ending_of b → a ≡ b
one_way_to_end a b e = sym (how_from-ending_of a) ∙ ap how_from e ∙ how_from-ending_of b

writes_one : (t : Tables) (p : ℕ) (X : Family) (talk : List Said) (c d : ℕ) (v w : ℤ)
    → ProcessCanSay t p X (talk ++ said.Put c v ∷ []) → ProcessCanSay t p X (talk ++ said.Put d w ∷ []) → c ≡ d
writes_one t p X talk c d v w h k =
    elim (CanSay-comparable t p X (talk ++ said.Put c v ∷ []) (talk ++ said.Put d w ∷ []) h k) [
      | inl begins ↦ same_put c d v w (prefix_after talk (said.Put c v ∷ []) (said.Put d w ∷ []) begins).0
      | inr begins ↦ sym (same_put d c w v (prefix_after talk (said.Put d w ∷ []) (said.Put c v ∷ []) begins).0)
    ]
  where
    same_put : (a b : ℕ) (x y : ℤ) → said.Put a x ≡ said.Put b y → a ≡ b
    same_put a b x y e = cc

starved_at_one : (c d : ℕ) → ending.Starved c ≡ ending.Starved d → c ≡ d
starved_at_one c d e = cc

-- on one family and after one talk a process halts in one way
rest_unique : (t : Tables) (p : ℕ) (X : Family) (talk : List Said) (e f : Event)
    → is_of p e ≡ true → is_of p f ≡ true → IsHalt e → IsHalt f → ComesToRest t p X talk e
    → ComesToRest t p X talk f → e ≡ f
rest_unique t p X talk (WaitEmpty q c) (WaitEmpty r d) own its rests stays h k =
    ap (λ x. WaitEmpty x c) (eqb-true q p own ∙ sym (eqb-true r p its))
    ∙ ap (WaitEmpty r) (starved_at_one c d (comes_to_one t p X (ending.Starved c) (ending.Starved d) talk talk h k))
rest_unique t p X talk (WaitEmpty q c) (WaitFull r d) own its rests stays h k =
    absurd (says_no_more t p X (ending.Starved c) talk (said.Put d k.0) h k.1)
rest_unique t p X talk (WaitEmpty q c) (Ended r way) own its rests stays h k =
    absurd (never_starved way c (comes_to_one t p X (ending.Starved c) (ending_of way) talk talk h k))
rest_unique t p X talk (WaitFull q c) (WaitEmpty r d) own its rests stays h k =
    absurd (says_no_more t p X (ending.Starved d) talk (said.Put c h.0) k h.1)
rest_unique t p X talk (WaitFull q c) (WaitFull r d) own its rests stays h k =
    ap (λ x. WaitFull x c) (eqb-true q p own ∙ sym (eqb-true r p its))
    ∙ ap (WaitFull r) (writes_one t p X talk c d h.0 k.0 h.1 k.1)
rest_unique t p X talk (WaitFull q c) (Ended r way) own its rests stays h k =
    absurd (says_no_more t p X (ending_of way) talk (said.Put c h.0) k h.1)
rest_unique t p X talk (Ended q way) (WaitEmpty r d) own its rests stays h k =
    absurd (never_starved way d (comes_to_one t p X (ending.Starved d) (ending_of way) talk talk k h))
rest_unique t p X talk (Ended q way) (WaitFull r d) own its rests stays h k =
    absurd (says_no_more t p X (ending_of way) talk (said.Put d k.0) h k.1)
rest_unique t p X talk (Ended q way) (Ended r other) own its rests stays h k =
    ap (λ x. Ended x way) (eqb-true q p own ∙ sym (eqb-true r p its))
    ∙ ap (Ended r) (one_way_to_end way other (comes_to_one t p X (ending_of way) (ending_of other) talk talk h k))
rest_unique t p X talk (WaitEmpty q c) f own its rests stays h k = absurd stays
rest_unique t p X talk (WaitFull q c) f own its rests stays h k = absurd stays
rest_unique t p X talk (Ended q way) f own its rests stays h k = absurd stays
rest_unique t p X talk e f own its rests stays h k = absurd rests

-- ---- two histories

-- a process that said the same in two histories, and made a wait or its end last in both, made the same event last
pub same_halt : (t : Tables) (network : IsNetwork t) (H G : List Event) → Legal t H → Legal t G → (p : ℕ)
    → p < length t.instances → talk_of H p ≡ talk_of G p → (e f : Event) → last_event H p ≡ Some e
    → last_event G p ≡ Some f → IsHalt e → IsHalt f → e ≡ f
same_halt t network H G legal-H legal-G p below same e f last other halts stays =
    rest_unique t p (read_on G) (talk_of G p) e f (last_is_own t network p H legal-H e last).its
    (last_is_own t network p G legal-G f other).its halts stays
    (subst (λ talk. ComesToRest t p (read_on G) talk e) same
    (rest-own_ins t p (read_on H) (read_on G) reads (talk_of H p) e
    (came_to_rest t network p below H legal-H e last)))
    (came_to_rest t network p below G legal-G f other)
  where
    reads : AgreeOnIns t p (read_on H) (read_on G)
    reads = record {
      each = λ c among.
          let reader = reader_of-Reads t network p c (reads_if_contained t p below c among) in
          read_on-got t network c p reader H legal-H
          ∙ ap (λ talk. got_at talk c) same
          ∙ sym (read_on-got t network c p reader G legal-G);
    }

-- a process that said the same in two histories, and rests in both, rests on the same event
pub same_rest : (t : Tables) (network : IsNetwork t) (H G : List Event) → Legal t H → Legal t G → (p : ℕ)
    → p < length t.instances → talk_of H p ≡ talk_of G p → (e f : Event) → Rests t H p e → Rests t G p f → e ≡ f
same_rest t network H G legal-H legal-G p below same e f rests stays =
    same_halt t network H G legal-H legal-G p below same e f rests.last stays.last (rest_halts t H e rests.is)
    (rest_halts t G f stays.is)

-- in the first history no more was read, or written, on the channel on which a process waits in the second one
abbrev pub IsBounded : List Event → List Event → Event → Type 0
IsBounded H G (WaitEmpty p c) = IsPrefix (read_on H c) (read_on G c)
IsBounded H G (WaitFull p c) = length (written_on H c) ≤ length (written_on G c)
IsBounded H G event = Unit {0}

module _ (t : Tables) (network : IsNetwork t) (given : Family) (H G : List Event) (legal-H : Legal t H)
    (legal-G : Legal t G) (fed-H : IsPrefixOnSources t (fed t H) given) (fed-G : IsPrefixOnSources t (fed t G) given)
    (p : ℕ) (below : p < length t.instances) where
  -- a number of turns with which one iterate is above all that was read in both
  record AreBelow : Type 0 where
    turns : ℕ
    first : IsFamilyPrefix (read_on H) (iterate t given turns)
    second : IsFamilyPrefix (read_on G) (iterate t given turns)

  are_below : AreBelow
  are_below =
      let b = below_one_iterate t network H legal-H given fed-H in
      let d = below_one_iterate t network G legal-G given fed-G in
      let m = max b.turns d.turns in
      record {
        turns = m;
        first = λ c.
            IsPrefix-trans (read_on H c) (written_on H c) (iterate t given m c) (reads_begin_writes t H legal-H c)
            (IsPrefix-trans (written_on H c) (iterate t given b.turns c) (iterate t given m c) (b.below c)
            (iterate-grows t given b.turns m (omega arith) c));
        second = λ c.
            IsPrefix-trans (read_on G c) (written_on G c) (iterate t given m c) (reads_begin_writes t G legal-G c)
            (IsPrefix-trans (written_on G c) (iterate t given d.turns c) (iterate t given m c) (d.below c)
            (iterate-grows t given d.turns m (omega arith) c));
      }

  -- what it said in the first history it can say on any longer lists
  said_on : (Y : Family) → IsFamilyPrefix (read_on H) Y → ProcessCanSay t p Y (talk_of H p)
  said_on Y longer =
      CanSay-longer t p (read_on H) Y longer (talk_of H p) ((Legal-consistent t H legal-H).said p below)

  -- one of its two talks begins the other
  pub talks_comparable : IsPrefix (talk_of H p) (talk_of G p) ⊎ IsPrefix (talk_of G p) (talk_of H p)
  talks_comparable =
      let Y = iterate t given are_below.turns in
      CanSay-comparable t p Y (talk_of H p) (talk_of G p) (said_on Y are_below.first)
      (CanSay-longer t p (read_on G) Y are_below.second (talk_of G p) ((Legal-consistent t G legal-G).said p below))

  -- if it would have put one more item there in the first history
  puts_more : (q c : ℕ) (v : ℤ) → writer_of t c ≡ Process p → length (written_on H c) ≤ length (written_on G c)
      → IsPrefix (talk_of G p ++ said.Put c v ∷ []) (talk_of H p) → ⊥
  puts_more q c v writes bounded begins =
      let puts = put_at-prefix (talk_of G p ++ said.Put c v ∷ []) (talk_of H p) c begins in
      let longer = length_of_prefix (put_at (talk_of G p ++ said.Put c v ∷ []) c) (put_at (talk_of H p) c) puts in
      let parts = ap length (put_at-append (talk_of G p) (said.Put c v ∷ []) c)
      ∙ length-append (put_at (talk_of G p) c) (put_at (said.Put c v ∷ []) c) in
      let one : length (put_at (said.Put c v ∷ []) c) ≡ 1 =
      ap (λ b. length (cond b (v ∷ []) [])) (eq-eqb c c refl) in
      let in_H = ap length (written_on-put t network c p writes H legal-H) in
      let in_G = ap length (written_on-put t network c p writes G legal-G) in
      omega arith

  -- what it said in the first history begins what it said in the second one, where it rests
  pub says_within : (e : Event) → Rests t G p e → IsBounded H G e → IsPrefix (talk_of H p) (talk_of G p)
  says_within e rests bounded =
      by_event e rests.is bounded (came_to_rest t network p below G legal-G e rests.last)
      (last_is_own t network p G legal-G e rests.last)
    where
      by_event : (f : Event) → IsRest t G f → IsBounded H G f → ComesToRest t p (read_on G) (talk_of G p) f
          → IsOwnEvent t p f → IsPrefix (talk_of H p) (talk_of G p)
      by_event (WaitEmpty q c) is bound comes own =
          let Y : Family = with_list c (read_on G c) (iterate t given are_below.turns) in
          let says =
          said_on Y
          (below_with_list c (read_on G c) (read_on H) (iterate t given are_below.turns) bound are_below.first) in
          IsPrefix-trans (talk_of H p) (talk_on t p says.turns Y) (talk_of G p) says.said
          (talk_settled-starved t network p below (read_on G) Y
          (below_with_list c (read_on G c) (read_on G) (iterate t given are_below.turns)
          (IsPrefix-refl (read_on G c)) are_below.second)
          c (with_list-here c (read_on G c) (iterate t given are_below.turns)) (talk_of G p) comes says.turns)
      by_event (WaitFull q c) is bound comes own =
          let writes : writer_of t c ≡ Process p =
          writer_of-Writes t network q c own.owns ∙ ap Process (eqb-true q p own.its) in
          let Y = iterate t given are_below.turns in
          elim (CanSay-comparable t p Y (talk_of H p) (talk_of G p ++ said.Put c comes.0 ∷ [])
          (said_on Y are_below.first)
          (CanSay-longer t p (read_on G) Y are_below.second (talk_of G p ++ said.Put c comes.0 ∷ []) comes.1)) [
            | inl begins ↦ elim (prefix_of_push (talk_of H p) (talk_of G p) (said.Put c comes.0) begins) [
              | inl within ↦ within
              | inr whole ↦ absurd (puts_more q c comes.0 writes bound (IsPrefix-same _ _ (sym whole)))
            ]
            | inr more ↦ absurd (puts_more q c comes.0 writes bound more)
          ]
      by_event (Ended q way) is bound comes own =
          let Y = iterate t given are_below.turns in
          let says = said_on Y are_below.first in
          IsPrefix-trans (talk_of H p) (talk_on t p says.turns Y) (talk_of G p) says.said
          (talk_settled-last t p (read_on G) Y are_below.second (ending_of way) (talk_of G p) (IsLast-ending_of way)
          comes says.turns)
      by_event event is bound comes own = absurd is
