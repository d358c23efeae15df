-- A process whose next read or write can take place waits for nobody: since its wait it has said nothing, so it would
-- wait at that same read or write.
use Rattle.kpn_machine.proofs.Common.{◌≡◌, ℕ, ◌<◌, Bool, true, false, ℤ, cond, List, [], ◌∷◌, ◌++◌, length, map, Option, Some, None, slice_index, refl, sym, ap, ◌∙◌, subst, inl, inr, arith, append-nil, length-append, Said, IsPrefix, Lists, IsPrefix-refl, IsPrefix-trans, length_of_prefix, Wait, Instance, Tables, instance_at, IsNetwork, Family, talk_on, ProcessCanSay, at_channel, SaysNext, next_item, Event, Get, WaitEmpty, WaitFull, is_of, said_in, talk_of, last_event, read_on, unread_on, is_empty, is_full, wait_of_last, wait_of, Legal, Some-event, flat_map-same, last_event-own, last_event-other, talk_of-other, read_on-grows, read_on-same, none_elsewhere, Legal-last, by_events, CanSay-grows, IsStarved-last, empty_wait, full_where_waited, Machine, channel_in, wait_in, frame_in, IsRun, ReadsFrom, WritesTo}
use Rattle.std.proofs.lemmas.Bool.{cases_Bool, cases_eq, both_ways, eqb-true}
use Rattle.kpn_lang.specs.declared.talk.Said.TheVariants as said
use Rattle.kpn_net.specs.declared.wait.Wait.TheVariants.{Nobody, Empty, Full}
use Rattle.kpn_step.specs.declared.stop.Stop.TheVariants as stop
use Rattle.kpn_chan.specs.Channel as chan
use Rattle.kpn_machine.proofs.Due.{full_same, oldest, says_got, says_put}
use Rattle.kpn_machine.proofs.Exact.{next_is_asked}

-- ---- who waits on a full channel still comes to write there

pub record WritesNext (t : Tables) (H : List Event) (p c : ℕ) : Type 0 where
  pub item : ℤ
  pub next : ProcessCanSay t p (read_on H) (talk_of H p ++ said.Put c item ∷ [])

WritesNext-more : (t : Tables) (B : List Event) (e : Event) (p c : ℕ) (item : ℤ)
    → talk_of (B ++ e ∷ []) p ≡ talk_of B p → ProcessCanSay t p (read_on B) (talk_of B p ++ said.Put c item ∷ [])
    → WritesNext t (B ++ e ∷ []) p c
WritesNext-more t B e p c item same next =
    record {
      item = item;
      next = subst (λ talk. ProcessCanSay t p (read_on (B ++ e ∷ [])) (talk ++ said.Put c item ∷ [])) (sym same)
          (CanSay-grows t p (read_on B) (read_on (B ++ e ∷ [])) (talk_of B p ++ said.Put c item ∷ [])
          (read_on-grows B e) next);
    }

WritesNext-own : (t : Tables) (B : List Event) (e : Event) → Legal t (B ++ e ∷ []) → (p q c : ℕ) → is_of p e ≡ true
    → e ≡ WaitFull q c → WritesNext t (B ++ e ∷ []) p c
WritesNext-own t B e legal p q c own is =
    let who : q ≡ p = eqb-true q p (subst (λ x. is_of p x ≡ true) is own) in
    let same : e ≡ WaitFull p c = is ∙ ap (λ x. WaitFull x c) who in
    subst (λ x. WritesNext t (B ++ x ∷ []) p c) (sym same)
    (waits (subst (λ x. Legal t (B ++ x ∷ [])) same legal))
  where
    waits : Legal t (B ++ WaitFull p c ∷ []) → WritesNext t (B ++ WaitFull p c ∷ []) p c
    waits legal =
        let due = (Legal-last t B (WaitFull p c) legal).due.1 in
        WritesNext-more t B (WaitFull p c) p c due.item (flat_map-same (said_in p) B (WaitFull p c) refl) due.next

WritesNext-last : (t : Tables) (p : ℕ) (H : List Event) → Legal t H → (q c : ℕ)
    → last_event H p ≡ Some (WaitFull q c) → WritesNext t H p c
WritesNext-last t p =
    by_events t (λ H. (q c : ℕ) → last_event H p ≡ Some (WaitFull q c) → WritesNext t H p c)
    (λ q c is. absurd cc)
    (λ B e legal h q c is. elim (cases_Bool (is_of p e)) [
      | inl own ↦
          WritesNext-own t B e legal p q c own
          (Some-event e (WaitFull q c) (sym (last_event-own B e p own) ∙ is))
      | inr other ↦
          let before = h q c (sym (last_event-other B e p other) ∙ is) in
          WritesNext-more t B e p c before.item (talk_of-other B e p other) before.next
    ])

full_if : (full : Bool) (d c : ℕ) → cond full (Full d) Nobody ≡ Full c → d ≡ c
full_if true d c e = cc
full_if false d c e = absurd cc

empty_if : (empty : Bool) (d c : ℕ) → cond empty (Empty d) Nobody ≡ Full c → ⊥
empty_if true d c e = cc
empty_if false d c e = cc

full_wait : (t : Tables) (H : List Event) (last : Option Event) (c : ℕ) → wait_of_last t H last ≡ Full c
    → (q : ℕ) × (last ≡ Some (WaitFull q c))
full_wait t H None c e = absurd cc
full_wait t H (Some (WaitEmpty q d)) c e = absurd (empty_if (is_empty H d) d c e)
full_wait t H (Some (WaitFull q d)) c e = (q, ap (λ x. Some (WaitFull q x)) (full_if (is_full t H d) d c e))
full_wait t H (Some event) c e = absurd cc

-- ---- what a stop says next

no_put : (i : Instance) (port d : ℕ) (item : ℤ) (rest : Lists) (spoken : Said) → at_channel i spoken ≡ said.Put d item
    → SaysNext (stop.WantRead port) rest spoken → ⊥
no_put i port d item rest (said.Got o w) own next = let clash : said.Got (slice_index i.ins o) w ≡ said.Put d item =
    own in cc
no_put i port d item rest (said.Put o w) own next = next

put_there : (i : Instance) (port d : ℕ) (v item : ℤ) (rest : Lists) (spoken : Said)
    → at_channel i spoken ≡ said.Put d item → SaysNext (stop.WantWrite port v) rest spoken
    → slice_index i.outs port ≡ d
put_there i port d v item rest (said.Got o w) own next = absurd next
put_there i port d v item rest (said.Put o w) own next =
    let same : slice_index i.outs o ≡ d = cc in
    ap (λ x. slice_index i.outs x) (sym next.0) ∙ same

too_long : (talk ran : List Said) (heard : Said) → IsPrefix (talk ++ heard ∷ []) ran → IsPrefix ran talk → ⊥
too_long talk ran heard longer shorter =
    let long = length_of_prefix (talk ++ heard ∷ []) talk
    (IsPrefix-trans (talk ++ heard ∷ []) ran talk longer shorter) in
    let more = length-append talk (heard ∷ []) in
    absurd (omega arith)

-- ---- who can go on

module _ (t : Tables) (network : IsNetwork t) (H : List Event) (s : Machine) (run : IsRun t H s) (p : ℕ)
    (there : p < length t.instances) (c : ℕ) (below : c < length t.channels) (v : ℤ) where
  waits_for_nobody : ((d : ℕ) → wait_of t H p ≡ Empty d → ⊥) → ((d : ℕ) → wait_of t H p ≡ Full d → ⊥)
      → wait_in s p ≡ Nobody
  waits_for_nobody no_empty no_full = run.leads.waits p there ∙ by_wait (wait_of t H p) refl
    where
      by_wait : (w : Wait) → wait_of t H p ≡ w → w ≡ Nobody
      by_wait Nobody is = refl
      by_wait (Empty d) is = absurd (no_empty d is)
      by_wait (Full d) is = absurd (no_full d is)

  -- on these lists, which have no more on the channel of its wait, it says no more
  starved : (d : ℕ) → wait_of t H p ≡ Empty d → (X : Family) → ((e : ℕ) → IsPrefix (read_on H e) (X e))
      → X d ≡ read_on H d → (heard : Said) → ProcessCanSay t p X (talk_of H p ++ heard ∷ []) → ⊥
  starved d is X longer same heard can =
      let w = empty_wait t H (last_event H p) d is in
      too_long (talk_of H p) (talk_on t p can.turns X) heard can.said
      ((IsStarved-last t network p H run.legal w.process d w.is).whole can.turns X longer same)

  module _ (reads : ReadsFrom t s p c) (ready : next_item (channel_in s c) ≡ Some v) where
    reads_no_empty : (d : ℕ) → wait_of t H p ≡ Empty d → ⊥
    reads_no_empty d is =
        elim (cases_eq d c) [
          | inl same ↦
              let w = empty_wait t H (last_event H p) d is in
              let first = (oldest t H c (channel_in s c) (run.leads.channels c below) v ready).first in
              let none : length (unread_on H c) ≡ 0 = eqb-true _ _ (subst (λ x. is_empty H x ≡ true) same w.empty) in
              let some = ap length first in
              absurd (omega arith)
          | inr differ ↦
              starved d is (read_on (H ++ Get p c v ∷ [])) (read_on-grows H (Get p c v))
              (read_on-same H (Get p c v) d (none_elsewhere c d v (λ e. differ (sym e)))) (said.Got c v)
              (says_got t network H s run p there c v reads)
        ]

    reads_no_full : (d : ℕ) → wait_of t H p ≡ Full d → ⊥
    reads_no_full d is =
        let wait = full_wait t H (last_event H p) d is in
        let w = WritesNext-last t p H run.legal wait.0 d wait.1 in
        let next = next_is_asked t network H run.legal p there (frame_in s p) (run.leads.frames p there)
        (stop.WantRead reads.port) reads.stands (λ e. absurd cc) (read_on H) (λ e. [])
        (λ e. sym (append-nil (read_on H e))) (said.Put d w.item) w.next in
        no_put (instance_at t p) reads.port d w.item (map (λ e. []) (instance_at t p).ins) next.0 next.1 next.2

    pub reader_is_awake : wait_in s p ≡ Nobody
    reader_is_awake = waits_for_nobody reads_no_empty reads_no_full

  module _ (writes : WritesTo t s p c v) (room : chan.is_channel_full (channel_in s c) ≡ false) where
    writes_no_empty : (d : ℕ) → wait_of t H p ≡ Empty d → ⊥
    writes_no_empty d is =
        starved d is (read_on H) (λ e. IsPrefix-refl (read_on H e)) refl (said.Put c v)
        (says_put t network H s run p there c v writes)

    writes_no_full : (d : ℕ) → wait_of t H p ≡ Full d → ⊥
    writes_no_full d is =
        let wait = full_wait t H (last_event H p) d is in
        let w = WritesNext-last t p H run.legal wait.0 d wait.1 in
        let next = next_is_asked t network H run.legal p there (frame_in s p) (run.leads.frames p there)
        (stop.WantWrite writes.port v) writes.stands (λ e. absurd cc) (read_on H) (λ e. [])
        (λ e. sym (append-nil (read_on H e))) (said.Put d w.item) w.next in
        let same : c ≡ d = sym writes.channel.1
        ∙ put_there (instance_at t p) writes.port d v w.item (map (λ e. []) (instance_at t p).ins) next.0 next.1 next.2 in
        both_ways (is_full t H c) (sym (full_same t H c (channel_in s c) (run.leads.channels c below)) ∙ room)
        (subst (λ x. is_full t H x ≡ true) (sym same) (full_where_waited t H (last_event H p) d is))

    pub writer_is_awake : wait_in s p ≡ Nobody
    writer_is_awake = waits_for_nobody writes_no_empty writes_no_full
