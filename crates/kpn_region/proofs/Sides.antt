-- What stands of each channel of a batch: how what was put, what was taken, the room and the most go together. So what
-- the region has put may be joined to a channel with which it agrees.
use Rattle.kpn_region.proofs.Common.{◌≡◌, ℕ, zero, suc, ◌+◌, ◌-◌, ◌<◌, ◌≤◌, ◌^◌, ◌||◌, Bool, true, false, eqb, ltb, cond, max, ℤ, IsTrue, List, [], ◌∷◌, ◌++◌, length, take, drop, get_or, Some, refl, sym, ap, ◌∙◌, subst, inl, inr, arith, length-append, nat_tests, slice_get_within, Tables, ChannelState, unread, MayJoin, batch_joined, readable, Event, Get, Put, Take, SideState, no_side, untaken, next_of, with_next_taken, with_item_put, as_claimed, Local, side_at, with_side, LocalStep, Plays, no_event, steps_on, one_event_more, Batch, IsBatch, ChannelAgrees, items_put, most_with, IsChannelJoined, most_seen}
use Rattle.std.proofs.lemmas.Bool.{cases_Bool, cases_eq, cases_lt, eqb-true}
use Rattle.std.proofs.lemmas.List.{length-drop, length-take, get_or-map, length-set}
use Rattle.kpn_chan.proofs.Places.{places_are}
use Rattle.kpn_region.proofs.Playing.{side_same, side_other}

-- ---- one side

pub record IsSideKept (side : SideState) : Type 0 where
  pub claimed : side.claimed ≤ length side.items
  pub taken : side.taken ≤ length side.items
  pub few : side.most ≤ length side.items
  pub room : side.claimed < length side.items → length side.items ≤ side.taken + side.room
  pub most : side.claimed < length side.items → length side.items ≤ side.taken + side.most
  pub none : length side.items ≤ side.claimed → side.most ≡ 0

kept_after_get : (side : SideState) (v : ℤ) → next_of side ≡ Some v → IsSideKept side
    → IsSideKept (with_next_taken side)
kept_after_get side v next kept =
    let below : side.taken < length side.items = slice_get_within side.items side.taken v next in
    record {
      claimed = kept.claimed;
      taken = omega (arith, below);
      few = kept.few;
      room = λ put. let fits = kept.room put in omega (arith, fits);
      most = λ put. let fits = kept.most put in omega (arith, fits);
      none = kept.none;
    }

kept_after_put : (side : SideState) (v : ℤ) → length (untaken side) < side.room → IsSideKept side
    → IsSideKept (with_item_put v side)
kept_after_put side v room kept =
    let longer : length (side.items ++ v ∷ []) ≡ length side.items + 1 = length-append side.items (v ∷ []) in
    let left : length (untaken side) ≡ length side.items - side.taken = length-drop side.taken side.items in
    let c = kept.claimed in
    let t = kept.taken in
    let f = kept.few in
    record {
      claimed = omega (arith, longer, c);
      taken = omega (arith, longer, t);
      few = omega (arith, longer, left, t, f);
      room = λ put. omega (arith, longer, left, t, room);
      most = λ put. omega (arith, longer, left, t);
      none = λ no. absurd (omega (arith, longer, c, no));
    }

kept_at_claim : (side : SideState) → side.claimed ≡ length (take side.claimed side.items)
    → IsSideKept (as_claimed side)
kept_at_claim side count =
    record {
      claimed = omega (arith, count);
      taken = omega arith;
      few = omega arith;
      room = λ put. absurd (omega (arith, count, put));
      most = λ put. absurd (omega (arith, count, put));
      none = λ no. refl;
    }

-- ---- a side of a batch

module _ (c : ℕ) where
  abbrev KeptIn : Local → Type 0
  KeptIn s = c < length s.sides → IsSideKept (side_at s c)

  with_one : (s : Local) (d : ℕ) (side : SideState) → d < length s.sides
      → (IsSideKept (side_at s d) → IsSideKept side) → KeptIn s → KeptIn (with_side d side s)
  with_one s d side there step kept below =
      let here : c < length s.sides = omega (arith, below, length-set s.sides d side) in
      elim (cases_eq c d) [
        | inl same ↦
            subst (λ x. IsSideKept (side_at (with_side d side s) x)) (sym same)
            (subst IsSideKept (sym (side_same s.sides d side there))
            (step (subst (λ x. IsSideKept (side_at s x)) same (kept here))))
        | inr differ ↦ subst IsSideKept (sym (side_other s.sides d c side differ)) (kept here)
      ]

  after_event : (t : Tables) (event : Event) (before after : Local) → LocalStep t event before after
      → KeptIn before → KeptIn after
  after_event t (Get p d v) before after step kept =
      subst (λ (x : Local). KeptIn x) (sym step.there)
      (with_one before d (with_next_taken (side_at before d)) step.channel
      (kept_after_get (side_at before d) v step.item) kept)
  after_event t (Put p d v) before after step kept =
      subst (λ (x : Local). KeptIn x) (sym step.there)
      (with_one before d (with_item_put v (side_at before d)) step.channel
      (kept_after_put (side_at before d) v step.room) kept)
  after_event t (Take d v) before after step kept =
      subst (λ (x : Local). KeptIn x) (sym step.there)
      (with_one before d (with_next_taken (side_at before d)) step.channel
      (kept_after_get (side_at before d) v step.item) kept)
  after_event t event before after step kept = absurd step

  kept_by_plays : (t : Tables) (first : Local) → KeptIn first → {events : List Event} {now : Local}
      → Plays t first events now → KeptIn now
  kept_by_plays t first start no_event = start
  kept_by_plays t first start (steps_on before after plays step) =
      subst (λ (x : Local). KeptIn x) (sym step.there) (kept_by_plays t first start plays)
  kept_by_plays t first start (one_event_more before after event plays step) =
      after_event t event before after step (kept_by_plays t first start plays)

  pub kept_in_batch : (b : Batch) → IsBatch b → c < length b.tables.channels
      → (side_at b.now c).claimed ≡ length (take (side_at b.now c).claimed (side_at b.now c).items)
      → IsSideKept (side_at b.now c)
  kept_in_batch b is below count =
      let there : c < length b.now.sides = subst (λ n. c < n) (sym is.is.sides) below in
      let claim : side_at b.first c ≡ as_claimed (side_at b.now c) =
      ap (λ ss. get_or ss c no_side) is.claimed ∙ get_or-map as_claimed b.now.sides c no_side no_side there in
      kept_by_plays b.tables b.first
      (λ within. subst IsSideKept (sym claim) (kept_at_claim (side_at b.now c) count)) is.plays there

-- ---- a side that agrees with a channel

with_bound : (unseen most before : ℕ) → unseen ≤ before
    → unseen + most ≤ max before (cond (eqb most 0) 0 (unseen + most))
with_bound unseen most before few =
    elim (cases_Bool (eqb most 0)) [
      | inl none ↦ let no = eqb-true most 0 none in omega (arith, few, no)
      | inr some ↦ rw some (omega (arith, few))
    ]

most_either : (gone : Bool) (unseen most before : ℕ)
    → cond gone before (max before (cond (gone || eqb most 0) 0 (unseen + most)))
    ≡ cond gone before (most_with unseen most before)
most_either true unseen most before = refl
most_either false unseen zero before = omega arith
most_either false unseen (suc most) before =
    let some : eqb (suc most) 0 ≡ false = grind (arith, nat_tests) in
    ap (λ b. max before (cond b 0 (unseen + suc most))) some

-- something was put exactly if there are more items than were claimed
pub puts_some : (claimed all : ℕ) → ltb 0 (all - claimed) ≡ ltb claimed all
puts_some claimed all =
    elim (cases_lt claimed all) [
      | inl put ↦
          let more : ltb claimed all ≡ true = grind (arith, nat_tests) in
          let some : ltb 0 (all - claimed) ≡ true = grind (arith, nat_tests) in
          some ∙ sym more
      | inr none ↦
          let no_more : ltb claimed all ≡ false = grind (arith, nat_tests) in
          let nothing : ltb 0 (all - claimed) ≡ false = grind (arith, nat_tests) in
          nothing ∙ sym no_more
    ]

readable_few : (gone : Bool) (xs : List ℤ) → length (cond gone [] xs) ≤ length xs
readable_few true xs = omega arith
readable_few false xs = omega arith

module _ (t : Tables) (c : ℕ) (side : SideState) (channel : ChannelState) (agrees : ChannelAgrees t c side channel)
  where
    pub claim_counts : side.claimed ≡ length (take side.claimed side.items)
    claim_counts = agrees.claim.count

    pub claimed_unread : side.claimed ≤ length (unread channel)
    claimed_unread =
        let claim : List ℤ = take side.claimed side.items in
        let same : length claim ≡ length (take (length claim) (readable channel)) =
        ap (λ (xs : List ℤ). length xs) agrees.claim.first in
        omega (
          arith,
          claim_counts,
          same,
          length-take (length claim) (readable channel),
          readable_few channel.is_retired (unread channel),
        )

    module _ (kept : IsSideKept side) (read : channel.read ≤ length channel.journal)
        (most : channel.is_retired ≡ false → length (unread channel) ≤ channel.most) where
      long_put : length (items_put side) ≡ length side.items - side.claimed
      long_put = length-drop side.claimed side.items

      long_unread : length (unread channel) ≡ length channel.journal - channel.read
      long_unread = length-drop channel.read channel.journal

      written : channel.read + side.taken ≤ length channel.journal + length (items_put side)
      written =
          let all = kept.taken in
          let claim = kept.claimed in
          omega (arith, long_put, long_unread, claimed_unread, all, claim, read)

      within : channel.is_retired ≡ false → 0 < length (items_put side) → (capacity : ℕ)
          → channel.capacity ≡ Some capacity
          → length (unread channel) + length (items_put side) ≤ capacity + side.taken
      within there some capacity is =
          let keeps = agrees.claim.room there capacity is in
          let put : side.claimed < length side.items = omega (arith, some, long_put) in
          let fits = kept.room put in
          omega (arith, keeps, fits, long_put, put)

      seen : channel.is_retired ≡ false
          → length (unread channel) + length (items_put side) ≤ max channel.most (most_seen side channel) + side.taken
      seen there =
          let unseen = length (unread channel) - side.claimed in
          let few = most there in
          let is : most_seen side channel ≡ cond (eqb side.most 0) 0 (unseen + side.most) =
          ap (λ gone. cond (gone || eqb side.most 0) 0 (unseen + side.most)) there in
          let bound : unseen + side.most ≤ max channel.most (cond (eqb side.most 0) 0 (unseen + side.most)) =
          with_bound unseen side.most channel.most (omega (arith, few)) in
          let claim = claimed_unread in
          let long = long_put in
          elim (cases_lt side.claimed (length side.items)) [
            | inl put ↦ let fits = kept.most put in omega (arith, is, bound, fits, claim, long, put)
            | inr none ↦ omega (arith, few, long, none)
          ]

      pub may_join : MayJoin side.taken (items_put side) (most_seen side channel) channel
      may_join = record { places = agrees.places; written = written; within = within; seen = seen }

      pub bounded : length channel.journal < 2 ^ 64 → length (unread channel) + side.most < 2 ^ 64
      bounded all =
          let few = kept.few in
          let claim = claimed_unread in
          let long = long_put in
          let left = long_unread in
          elim (cases_lt side.claimed (length side.items)) [
            | inl put ↦
                let places = (places_are (length (items_put side)) channel agrees.places (omega (arith, put, long))).bound in
                omega (arith, few, claim, long, left, put, places)
            | inr none ↦ let no = kept.none none in omega (arith, no, left, all)
          ]

    pub is_joined : (after : ChannelState)
        → after
        ≡ batch_joined side.taken (items_put side) (most_seen side channel) after.is_reserved after.is_roomy channel
        → (items_put side ≡ [] → IsTrue channel.is_reserved → IsTrue after.is_reserved)
        → IsChannelJoined side channel after
    is_joined after is keep =
        record {
          journal = ap (λ x. x.journal) is;
          read = ap (λ x. x.read) is;
          capacity = ap (λ x. x.capacity) is;
          retired = ap (λ x. x.is_retired) is;
          reserved = keep;
          most =
              ap (λ x. x.most) is
              ∙ most_either channel.is_retired (length (unread channel) - side.claimed) side.most channel.most;
          kept = ap (λ x. x.is_kept) is;
        }

-- a side of a batch that agrees with a channel
pub kept_of : (b : Batch) → IsBatch b → (c : ℕ) → c < length b.tables.channels → (channel : ChannelState)
    → ChannelAgrees b.tables c (side_at b.now c) channel → IsSideKept (side_at b.now c)
kept_of b is c below channel agrees =
    kept_in_batch c b is below (claim_counts b.tables c (side_at b.now c) channel agrees)

-- the items after those that were claimed are those that the region has put
pub put_of : (found side : SideState) → found ≡ side → (claimed : ℕ) (items put : List ℤ) → claimed ≡ found.claimed
    → items ≡ found.items → put ≡ drop claimed items → put ≡ items_put side
put_of found side same claimed items put c i p =
    p ∙ ap (λ n. drop n items) c ∙ ap (λ (l : List ℤ). drop found.claimed l) i
    ∙ ap (λ (x : SideState). items_put x) same

-- what is handed on to be joined is what stands of the side
pub record IsHanded (side : SideState) (channel : ChannelState) (taken : ℕ) (put : List ℤ) (most : ℕ) : Type 0 where
  pub taken_is : taken ≡ side.taken
  pub put_is : put ≡ items_put side
  pub most_is : most ≡ most_seen side channel

pub handed_on : (found side : SideState) → found ≡ side → (there channel : ChannelState) → there ≡ channel
    → (taken claimed most : ℕ) (items put : List ℤ) → taken ≡ found.taken → claimed ≡ found.claimed
    → items ≡ found.items → put ≡ drop claimed items → most ≡ most_seen found there
    → IsHanded side channel taken put most
handed_on found side same there channel at taken claimed most items put t c i p m =
    record {
      taken_is = t ∙ ap (λ (x : SideState). x.taken) same;
      put_is = put_of found side same claimed items put c i p;
      most_is = m ∙ ap (λ (x : SideState). most_seen x there) same ∙ ap (λ x. most_seen side x) at;
    }
