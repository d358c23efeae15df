-- A region is claimed: its processes, the channels, and what that makes of the book.
use Rattle.kpn_book.proofs.Common.{◌≡◌, ◌↔◌, ℕ, ◌+◌, ◌-◌, ◌<◌, ◌≤◌, ◌^◌, min, ℤ, Bool, true, false, not, ◌&&◌, eqb, cond, IsTrue, List, [], ◌∷◌, ◌++◌, length, take, drop, get_or, Option, Some, None, is_some, Result, Ok, Err, refl, sym, ap, ◌∙◌, subst, inl, inr, arith, length-drop, OnOk, cases_eq, false≢true, eqb-true, get_or-set_same, get_or-set_other, length-take-le, take_all, Contains-append_left, Contains-push, Contains-push_cases, End, Process, Tables, channel_at, is_sink, writer_of, reader_of, IsNetwork, ChannelState, unread, has_places_for, roomy, readable, How, Machine, channel_in, wait_in, end_in, frame_in, no_frame, within_capacity, no_side, Local, is_in_region, frame_at, side_at, IsLocal, Batch, IsFresh, with_process, ChannelAgrees, AgreesWith, state_at, Book, IsStateBy, IsKept, batch_held, CanCount, may_claim, is_end_within, at_most_half, items_claimed, free_room, room_claimed, drains_claimed, side_by, side_claimed, IsRoomyToWrite, IsSameButMemory, IsSameBook, ClaimsRegion, with_process_of, HasProcesses, MakesRoom, SeesChannel, SeesChannels}
use Rattle.std.specs.List.{Contains}
use Rattle.kpn_book.proofs.Regions.{and_left, and_right}

-- ---- processes

module _ (t : Tables) (s : Machine) where
  -- process q is in the region if it is one of these and has not ended, and only then
  abbrev IsWithinBy : (of : List ℕ) → (q : ℕ) → Local → Type 0
  IsWithinBy of q claim = (is_in_region claim q ≡ true) ↔ (Contains of q × (end_in s q ≡ None))

  -- it is where it stands
  abbrev StandsBy : (q : ℕ) → Local → Type 0
  StandsBy q claim = is_in_region claim q ≡ true → frame_at claim q ≡ frame_in s q

  module _ (done : List ℕ) (p : ℕ) (claim : Local) (long : p < length claim.within)
      (frames : p < length claim.frames) (q : ℕ) where
    within_still : (how : How) → end_in s p ≡ Some how → IsWithinBy done q claim → IsWithinBy (done ++ p ∷ []) q claim
    within_still how ended was = (
      λ is. let both = was.0 is in (Contains-append_left done (p ∷ []) q both.0, both.1),
      λ both.
          elim (Contains-push_cases done p q both.0) [
            | inl among ↦ was.1 (among, both.1)
            | inr this ↦
                let clash : ◌≡◌ {A = Option How} (Some how) None = sym ended ∙ ap (end_in s) this ∙ both.1 in absurd cc
          ],
    )

    within_then : end_in s p ≡ None → IsWithinBy done q claim
        → IsWithinBy (done ++ p ∷ []) q (with_process p (frame_in s p) claim)
    within_then lives was =
        elim (cases_eq q p) [
          | inl this ↦
              subst (λ z. IsWithinBy (done ++ p ∷ []) z (with_process p (frame_in s p) claim)) (sym this)
              ((λ is. (Contains-push done p, lives)), (λ both. get_or-set_same claim.within p true false long))
          | inr other ↦
              let stays = get_or-set_other claim.within p q true false other in (
                λ is. let both = was.0 (sym stays ∙ is) in (Contains-append_left done (p ∷ []) q both.0, both.1),
                λ both.
                    elim (Contains-push_cases done p q both.0) [
                      | inl among ↦ stays ∙ was.1 (among, both.1)
                      | inr this ↦ absurd (other (sym this))
                    ],
              )
        ]

    stands_then : StandsBy q claim → StandsBy q (with_process p (frame_in s p) claim)
    stands_then was is =
        elim (cases_eq q p) [
          | inl this ↦
              subst (λ z. frame_at (with_process p (frame_in s p) claim) z ≡ frame_in s z) (sym this)
              (get_or-set_same claim.frames p (frame_in s p) no_frame frames)
          | inr other ↦
              get_or-set_other claim.frames p q (frame_in s p) no_frame other
              ∙ was (sym (get_or-set_other claim.within p q true false other) ∙ is)
        ]

    -- a process that has ended is left out
    within_by : (end : Option How) → end_in s p ≡ end → IsWithinBy done q claim
        → IsWithinBy (done ++ p ∷ []) q (cond (is_some end) claim (with_process p (frame_in s p) claim))
    within_by (Some how) is was = within_still how is was
    within_by None is was = within_then is was

    stands_by : (end : Option How) → StandsBy q claim
        → StandsBy q (cond (is_some end) claim (with_process p (frame_in s p) claim))
    stands_by (Some how) was = was
    stands_by None was = stands_then was

  module _ (done : List ℕ) (p : ℕ) (before after : Batch) (has : HasProcesses done t s before)
      (is : IsLocal before.tables before.first) (there : p < length t.instances) where
    long_within : p < length before.first.within
    long_within =
        let same = ap (λ x. length x.instances) has.tables in
        let long = is.within in
        omega (arith, there, long, same)

    long_frames : p < length before.first.frames
    long_frames =
        let same = ap (λ x. length x.instances) has.tables in
        let long = is.frames in
        omega (arith, there, long, same)

    pub one_process_more : after.tables ≡ before.tables → IsFresh after
        → after.first ≡ with_process_of s p before.first → HasProcesses (done ++ p ∷ []) t s after
    one_process_more tables fresh claims = record {
      tables = tables ∙ has.tables;
      fresh = fresh;
      within = λ q below.
          subst (λ l. IsWithinBy (done ++ p ∷ []) q l) (sym claims)
          (within_by done p before.first long_within long_frames q (end_in s p) refl (has.within q below));
      frames = λ q.
          subst (λ l. StandsBy q l) (sym claims)
          (stands_by done p before.first long_within long_frames q (end_in s p) (has.frames q));
    }

-- ---- memory of the channels

pub no_room_made : (s : Machine) → MakesRoom s s
no_room_made s = record {
  rest = refl;
  count = refl;
  channels = λ c. record { same = refl; reserved = λ is. is; roomy = λ is. is };
  run = λ t H run. run;
}

same_then : (x y z : ChannelState) → IsSameButMemory x y → IsSameButMemory y z → IsSameButMemory x z
same_then x y z first second = record {
  same =
      second.same
      ∙ ap (λ (w : ChannelState). record w { is_reserved = z.is_reserved; is_roomy = z.is_roomy; is_wide = z.is_wide }) first.same;
  reserved = λ is. second.reserved (first.reserved is);
  roomy = λ is. second.roomy (first.roomy is);
}

pub more_room_made : (x y z : Machine) → MakesRoom x y → MakesRoom y z → MakesRoom x z
more_room_made x y z first second = record {
  rest = second.rest ∙ ap (λ (w : Machine). record w { channels = z.channels }) first.rest;
  count = second.count ∙ first.count;
  channels = λ c.
      same_then (channel_in x c) (channel_in y c) (channel_in z c) (first.channels c) (second.channels c);
  run = λ t H run. second.run t H (first.run t H run);
}

-- ---- channels

pub end_same : (a b : Local) → a.within ≡ b.within → (e : End) → is_end_within a e ≡ is_end_within b e
end_same a b same (Process p) = ap (λ xs. get_or xs p false) same
end_same a b same other = refl

-- a region sees no memory
pub side_same : (reads writes sink : Bool) (most : ℕ) (drains : Bool) (before after : ChannelState)
    → IsSameButMemory before after
    → side_by reads writes sink most drains after ≡ side_by reads writes sink most drains before
side_same reads writes sink most drains before after is =
    ap (side_by reads writes sink most drains) is.same ∙ by_ends reads writes
  where
    by_ends : (r w : Bool)
        → side_by r w sink most drains
        (record before { is_reserved = after.is_reserved; is_roomy = after.is_roomy; is_wide = after.is_wide })
        ≡ side_by r w sink most drains before
    by_ends false false = refl
    by_ends false true = refl
    by_ends true false = refl
    by_ends true true = refl

-- a claim sees the channels by which processes are in the region
claim_by : (t : Tables) (a b : Local) (c most : ℕ) (drains : Bool) (channel : ChannelState) → a.within ≡ b.within
    → side_claimed t a c most drains channel ≡ side_claimed t b c most drains channel
claim_by t a b c most drains channel same =
    ap (λ r. side_by r (is_end_within a (writer_of t c)) (is_sink (channel_at t c)) most drains channel)
    (end_same a b same (reader_of t c))
    ∙ ap (λ w. side_by (is_end_within b (reader_of t c)) w (is_sink (channel_at t c)) most drains channel)
    (end_same a b same (writer_of t c))

module _ (most : ℕ) (drains : Bool) (s : Machine) where
  pub no_channel_yet : (b : Batch) → IsFresh b → SeesChannels most drains s 0 b b
  no_channel_yet b fresh =
      record {
        tables = refl;
        fresh = fresh;
        within = refl;
        frames = refl;
        sides = λ c below. absurd (omega (arith, below));
      }

  module _ (n : ℕ) (first before after : Batch) (channel : ChannelState) (there : n < length before.first.sides)
      (room : IsSameButMemory (channel_in s n) channel) (sees : SeesChannels most drains s n first before)
      (one : SeesChannel most drains n channel before after) where
    same_claim : side_claimed before.tables before.first n most drains channel
        ≡ side_claimed first.tables first.first n most drains (channel_in s n)
    same_claim =
        ap (λ t. side_claimed t before.first n most drains channel) sees.tables
        ∙ claim_by first.tables before.first first.first n most drains channel sees.within
        ∙ side_same (is_end_within first.first (reader_of first.tables n))
        (is_end_within first.first (writer_of first.tables n)) (is_sink (channel_at first.tables n)) most drains
        (channel_in s n) channel room

    pub one_channel_more : SeesChannels most drains s (n + 1) first after
    one_channel_more = record {
      tables = one.tables ∙ sees.tables;
      fresh = one.fresh;
      within = ap (λ l. l.within) one.side ∙ sees.within;
      frames = ap (λ l. l.frames) one.side ∙ sees.frames;
      sides = λ c below.
          elim (cases_eq c n) [
            | inl this ↦
                subst
                (λ z. side_at after.first z
                ≡ side_claimed first.tables first.first z most drains (channel_in s z))
                (sym this)
                (ap (λ l. side_at l n) one.side
                ∙ get_or-set_same before.first.sides n
                (side_claimed before.tables before.first n most drains channel) no_side there
                ∙ same_claim)
            | inr other ↦
                ap (λ l. side_at l c) one.side
                ∙ get_or-set_other before.first.sides n c
                (side_claimed before.tables before.first n most drains channel) no_side other
                ∙ sees.sides c (omega (arith, below, other))
          ];
    }

-- what the region writes is roomy, of the channels so far and of the next one
pub one_roomy_more : (t : Tables) (first now : Local) (n : ℕ) (before after : Machine)
    → now.within ≡ first.within → ((c : ℕ) → c < n → IsRoomyToWrite t first before c) → MakesRoom before after
    → IsRoomyToWrite t now after n → (c : ℕ) → c < n + 1 → IsRoomyToWrite t first after c
one_roomy_more t first now n before after same so_far room one c below writes =
    elim (cases_eq c n) [
      | inl this ↦
          subst (λ z. IsTrue (channel_in after z).is_roomy) (sym this)
          (one
          (end_same now first same (writer_of t n)
          ∙ subst (λ z. is_end_within first (writer_of t z) ≡ true) this writes))
      | inr other ↦ (room.channels c).roomy (so_far c (omega (arith, below, other)) writes)
    ]

-- what is claimed of a channel, and is returned, whether or not that was refused
pub on_ok : {T E : Type 0} {P : Type 0} (r : Result T E) → P → OnOk r P
on_ok (Ok _) is = is
on_ok (Err _) is = tt

-- ---- what is claimed of a channel agrees with it

half_at_most : (capacity : Option ℕ) (items n : ℕ) → items ≤ n → at_most_half capacity items ≤ n
half_at_most None items n few = omega (arith, few)
half_at_most (Some capacity) items n few = omega (arith, few)

pub items_there : (reads writes : Bool) (most : ℕ) (channel : ChannelState)
    → items_claimed reads writes most channel ≤ length (readable channel)
items_there false writes most channel = omega arith
items_there true true most channel = omega arith
items_there true false most channel =
    half_at_most channel.capacity (min most (length (readable channel))) (length (readable channel)) (omega arith)

pub readable_unread : (channel : ChannelState) → length (readable channel) ≤ length (unread channel)
readable_unread channel = by_retired channel.is_retired
  where
    by_retired : (retired : Bool) → length (cond retired [] (unread channel)) ≤ length (unread channel)
    by_retired true = omega arith
    by_retired false = omega arith

-- the room that is claimed of a channel with a reader and this capacity
room_of : (items capacity : ℕ) (channel : ChannelState) → channel.is_retired ≡ false → channel.capacity ≡ Some capacity
    → room_claimed true items channel ≡ capacity - (length (unread channel) - items)
room_of items capacity channel there is =
    ap (λ b. cond b (2 ^ 64 - 1) (free_room channel.capacity items (length (unread channel)))) there
    ∙ ap (λ o. free_room o items (length (unread channel))) is

room_kept : (writes : Bool) (items capacity : ℕ) (channel : ChannelState) → channel.is_retired ≡ false
    → channel.capacity ≡ Some capacity → items ≤ length (unread channel) → length (unread channel) ≤ capacity
    → room_claimed writes items channel + length (unread channel) ≤ capacity + items
room_kept false items capacity channel there is few within = omega (arith, within)
room_kept true items capacity channel there is few within =
    let room = room_of items capacity channel there is in
    omega (arith, room, few, within)

not_so : (b : Bool) → not b ≡ true → b ≡ false
not_so true is = absurd (false≢true is)
not_so false is = refl

module _ (t : Tables) (c : ℕ) (reads writes : Bool) (most : ℕ) (drains : Bool) (channel : ChannelState)
    (within : channel.is_retired ≡ false → (capacity : ℕ) → channel.capacity ≡ Some capacity
    → length (unread channel) ≤ capacity) where
  abbrev claimed : List ℤ
  claimed = take (items_claimed reads writes most channel) (readable channel)

  count : length claimed ≡ items_claimed reads writes most channel
  count =
      length-take-le (items_claimed reads writes most channel) (readable channel)
      (items_there reads writes most channel)

  whole : take (length claimed) claimed ≡ claimed
  whole = take_all (length claimed) claimed (omega arith)

  few : length claimed ≤ length (unread channel)
  few =
      let some = items_there reads writes most channel in
      let all = readable_unread channel in
      let is = count in
      omega (arith, some, all, is)

  drained : drains_claimed drains writes (is_sink (channel_at t c)) channel ≡ true
      → (is_sink (channel_at t c) ≡ true) × ((channel.is_retired ≡ false) × (length claimed ≡ 0))
  drained is =
      let sink = is_sink (channel_at t c) in
      let none = eqb (length (unread channel)) 0 in
      let by_sink = and_right writes (sink && (not channel.is_retired && none))
      (and_right drains (writes && (sink && (not channel.is_retired && none))) is) in
      let by_channel = and_right sink (not channel.is_retired && none) by_sink in
      let nothing = eqb-true (length (unread channel)) 0 (and_right (not channel.is_retired) none by_channel) in
      let at_most = few in (
        and_left sink (not channel.is_retired && none) by_sink,
        (not_so channel.is_retired (and_left (not channel.is_retired) none by_channel), omega (arith, at_most, nothing)),
      )

  pub side_agrees : ChannelAgrees t c (side_by reads writes (is_sink (channel_at t c)) most drains channel) channel
  side_agrees = record {
    claim = record {
      count = sym (ap length whole);
      first = whole ∙ ap (λ k. take k (readable channel)) (sym (ap length whole ∙ count));
      room = λ there capacity is.
          subst (λ n. room_claimed writes (items_claimed reads writes most channel) channel + length (unread channel)
          ≤ capacity + n) (sym count)
          (room_kept writes (items_claimed reads writes most channel) capacity channel there is
          (subst (λ n. n ≤ length (unread channel)) count few) (within there capacity is));
      drained = λ is. let all = drained is in record { sink = all.0; open_still = all.1.0; none = all.1.1 };
    };
    in_order = inl (omega arith);
    places =
        ap (λ n. has_places_for n channel)
        (let none : length (drop (length claimed) claimed) ≡ 0 = omega (arith, length-drop (length claimed) claimed) in
        none);
  }

-- ---- the book

pub kept_with_room : (book : Book) (s : Machine) → IsKept book → MakesRoom book.machine s
    → IsKept (record book { machine = s })
kept_with_room book s kept room = record {
  in_step = record {
    run = room.run book.tables book.history kept.in_step.run;
    processes = kept.in_step.processes;
    states = λ p there.
        subst (λ x. IsStateBy (end_in x p) (wait_in x p) (state_at book.schedule.states p)) (sym room.rest)
        (kept.in_step.states p there);
  };
  nothing_owed = kept.nothing_owed;
  committed = kept.committed;
  countable = kept.countable;
}

pub same_with_room : (book : Book) (s : Machine) → MakesRoom book.machine s
    → IsSameBook book (record book { machine = s })
same_with_room book s room =
    record { same = refl; rest = room.rest; count = room.count; channels = room.channels }

module _ (of : List ℕ) (most : ℕ) (drains : Bool) (book : Book) (s : Machine) (first batch : Batch)
    (network : IsNetwork book.tables) (kept : IsKept book)
    (has : HasProcesses of book.tables book.machine first) (room : MakesRoom book.machine s)
    (sees : SeesChannels most drains book.machine (length first.tables.channels) first batch)
    (places : (c : ℕ) → c < length first.tables.channels → IsRoomyToWrite first.tables first.first s c) where
  tables : batch.tables ≡ book.tables
  tables = sees.tables ∙ has.tables

  within_first : (p : ℕ) → is_in_region batch.first p ≡ is_in_region first.first p
  within_first p = ap (λ xs. get_or xs p false) sees.within

  side_is : (c : ℕ) → c < length book.tables.channels → side_at batch.first c
      ≡ side_claimed book.tables batch.first c most drains (channel_in book.machine c)
  side_is c below =
      sees.sides c (subst (λ x. c < length x.channels) (sym has.tables) below)
      ∙ ap (λ x. side_claimed x first.first c most drains (channel_in book.machine c)) has.tables
      ∙ claim_by book.tables first.first batch.first c most drains (channel_in book.machine c) (sym sees.within)

  agrees : AgreesWith batch s
  agrees = record {
    processes = λ p below within.
        let before = sym (within_first p) ∙ within in
        let there = subst (λ x. p < length x.instances) tables below in (
          ap (λ x. end_in x p) room.rest ∙ ((has.within p there).0 before).1,
          ap (λ x. frame_in x p) room.rest
              ∙ sym (ap (λ xs. get_or xs p no_frame) sees.frames ∙ has.frames p before),
        );
    channels = λ c below.
        let there = subst (λ x. c < length x.channels) tables below in
        let reads = is_end_within batch.first (reader_of book.tables c) in
        let writes = is_end_within batch.first (writer_of book.tables c) in
        let sink = is_sink (channel_at book.tables c) in
        subst (λ x. ChannelAgrees x c (side_at batch.now c) (channel_in s c)) (sym tables)
        (subst (λ side. ChannelAgrees book.tables c side (channel_in s c))
        (sym
        (ap (λ l. side_at l c) sees.fresh.same ∙ side_is c there
        ∙ sym
        (side_same reads writes sink most drains (channel_in book.machine c) (channel_in s c)
        (room.channels c))))
        (side_agrees book.tables c reads writes most drains (channel_in s c)
        (within_capacity book.tables network book.history s (room.run book.tables book.history kept.in_step.run) c
        there)));
  }

  pub region_claimed : may_claim of book.schedule.states ≡ true → CanCount 0 book
      → ClaimsRegion of most drains batch book (batch_held batch (record book { machine = s }))
  region_claimed may countable = record {
    may = may;
    countable = countable;
    fresh = sees.fresh;
    within = λ p below.
        subst (λ w. (w ≡ true) ↔ (Contains of p × (end_in book.machine p ≡ None))) (sym (within_first p))
        (has.within p below);
    frames = λ p within.
        ap (λ xs. get_or xs p no_frame) sees.frames ∙ has.frames p (sym (within_first p) ∙ within);
    sides = side_is;
    roomy = record book { machine = s };
    same = same_with_room book s room;
    places = λ c below writes.
        places c (subst (λ x. c < length x.channels) (sym has.tables) below)
        (ap (λ x. is_end_within first.first (writer_of x c)) has.tables
        ∙ end_same first.first batch.first (sym sees.within) (writer_of book.tables c) ∙ writes);
    agrees = agrees;
    held = refl;
  }
