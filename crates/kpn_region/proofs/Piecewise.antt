-- A batch that is joined channel by channel, and then process by process, is joined.
use Rattle.std.proofs.Common.{◌≡◌, ◌≢◌, ℕ, ◌+◌, ◌-◌, ◌<◌, ◌≤◌, ◌&&◌, ◌||◌, ℤ, Bool, true, false, ltb, eqb, cond, List, [], ◌++◌, length, get_or, None, refl, sym, ap, ◌∙◌, subst, inl, inr, arith, append-nil, length-set}
use Rattle.kpn_region.proofs.Common.{cases_eq, cases_lt, nat_tests, Wait, Nobody, Empty, Full, wait_at, AreWaits, ChannelState, unread, opened, Machine, channel_in, wait_in, frame_in, no_frame, with_channel, with_frame, ends_by_batch, SideState, no_side, is_in_region, frame_at, side_at, side_in, Batch, IsBatch, items_put, has_put_items, has_taken, most_with, most_joined, wait_joined, IsChannelJoined, Joins, JoinsChannel, wait_joined_below, JoinsChannels, JoinsFrames}
use Rattle.std.proofs.lemmas.List.{get_or-set_same, get_or-set_other, get_or_past, set-get_or, length-drop}
use Rattle.kpn_region.proofs.Sides.{IsSideKept}

-- ---- a channel of which nothing was taken, and on which nothing was put

none_of_either : (gone : Bool) (n : ℕ) → cond gone n n ≡ n
none_of_either true n = refl
none_of_either false n = refl

module _ (b : Batch) (c : ℕ) (s : Machine) (waits : AreWaits b.tables s.waits)
    (taken : (side_at b.now c).taken ≡ 0) (put : items_put (side_at b.now c) ≡ [])
    (kept : IsSideKept (side_at b.now c)) where
  abbrev side : SideState
  side = side_at b.now c

  abbrev channel : ChannelState
  channel = channel_in s c

  no_more_items : length side.items ≤ side.claimed
  no_more_items =
      let long = length-drop side.claimed side.items in
      let none = ap (λ (xs : List ℤ). length xs) put in
      omega (arith, long, none)

  same_most : channel.most ≡ most_joined side channel
  same_most =
      let none : side.most ≡ 0 = kept.none no_more_items in
      sym (ap (λ n. cond channel.is_retired channel.most
      (most_with (length (unread channel) - side.claimed) n channel.most)) none
      ∙ none_of_either channel.is_retired channel.most)

  joined_by_nothing : IsChannelJoined side channel channel
  joined_by_nothing =
      record {
        journal = sym (ap (λ xs. channel.journal ++ xs) put ∙ append-nil channel.journal);
        read = omega (arith, taken);
        capacity = refl;
        retired = refl;
        reserved = λ none is. is;
        most = same_most;
        kept = refl;
      }

  ends_none : (wait : Wait) → ends_by_batch c (has_taken side) (has_put_items side) wait ≡ false
  ends_none wait =
      let no_take : has_taken side ≡ false = ap (ltb 0) taken in
      let few = no_more_items in
      let no_put : has_put_items side ≡ false = grind (arith, nat_tests) in
      ap (λ x. ends_by_batch c x (has_put_items side) wait) no_take ∙ ap (λ x. ends_by_batch c false x wait) no_put

  -- the machine stays
  pub nothing_joined : JoinsChannel b c s s
  nothing_joined =
      record {
        rest =
            ap (λ cs. record s { channels = cs; waits = s.waits }) (sym (set-get_or s.channels c (opened None false)));
        channel = joined_by_nothing;
        woken = record {
          each = λ q.
              sym (ap (λ x. cond x Nobody (wait_at s.waits q)) (ends_none (wait_at s.waits q)));
        };
        waits = waits;
      }

-- ---- one wait

nobody : (b : Bool) → cond b Nobody Nobody ≡ Nobody
nobody true = refl
nobody false = refl

never : (b : Bool) → (b && false) ≡ false
never true = refl
never false = refl

no_more : (b : Bool) → (b || false) ≡ b
no_more true = refl
no_more false = refl

and_true : (b : Bool) → (b && true) ≡ b
and_true true = refl
and_true false = refl

-- a channel before the n-th, the n-th itself, or one after it
data Place (c n : ℕ) : Type 0 where
  earlier : ltb c n ≡ true → eqb n c ≡ false → ltb c (n + 1) ≡ true → Place c n
  itself : c ≡ n → ltb c n ≡ false → eqb n c ≡ true → ltb c (n + 1) ≡ true → Place c n
  behind : ltb c n ≡ false → eqb n c ≡ false → ltb c (n + 1) ≡ false → Place c n

place_of : (c n : ℕ) → Place c n
place_of c n =
    elim (cases_lt c n) [
      | inl below ↦ earlier (grind (arith, nat_tests)) (grind (arith, nat_tests)) (grind (arith, nat_tests))
      | inr past ↦
          elim (cases_eq c n) [
            | inl same ↦
                itself same (grind (arith, nat_tests)) (grind (arith, nat_tests)) (grind (arith, nat_tests))
            | inr differ ↦ behind (grind (arith, nat_tests)) (grind (arith, nat_tests)) (grind (arith, nat_tests))
          ]
    ]

-- a wait on channel c that ends if something has happened there, once one more channel is joined
wait_on : (c n : ℕ) (wait between now : Wait) (kind : Wait → Bool) (has here : Bool)
    → (c ≡ n → here ≡ has) → kind Nobody ≡ false → kind wait ≡ (here && eqb n c)
    → between ≡ cond (ltb c n && has) Nobody wait → now ≡ cond (kind between) Nobody between
    → now ≡ cond (ltb c (n + 1) && has) Nobody wait
wait_on c n wait between now kind has here same none is first second =
    by_place (place_of c n)
  where
    before_it : (h : Bool) → has ≡ h → ltb c n ≡ true → eqb n c ≡ false → now ≡ cond h Nobody wait
    before_it true e lower other =
        let at : between ≡ Nobody = first ∙ ap (λ b. cond (b && has) Nobody wait) lower
        ∙ ap (λ b. cond b Nobody wait) e in
        second ∙ ap (λ w. cond (kind w) Nobody w) at ∙ nobody (kind Nobody)
    before_it false e lower other =
        let at : between ≡ wait = first ∙ ap (λ b. cond (b && has) Nobody wait) lower
        ∙ ap (λ b. cond b Nobody wait) e in
        let not : kind wait ≡ false = is ∙ ap (λ b. here && b) other ∙ never here in
        second ∙ ap (λ w. cond (kind w) Nobody w) at ∙ ap (λ b. cond b Nobody wait) not

    as_it_was : ltb c n ≡ false → between ≡ wait
    as_it_was past = first ∙ ap (λ b. cond (b && has) Nobody wait) past

    by_place : Place c n → now ≡ cond (ltb c (n + 1) && has) Nobody wait
    by_place (earlier lower other within) =
        before_it has refl lower other ∙ sym (ap (λ b. cond (b && has) Nobody wait) within)
    by_place (itself here_it past equal within) =
        let at = as_it_was past in
        let ends : kind wait ≡ has =
        is ∙ ap (λ b. here && b) equal ∙ and_true here ∙ same here_it in
        second ∙ ap (λ w. cond (kind w) Nobody w) at ∙ ap (λ b. cond b Nobody wait) ends
        ∙ sym (ap (λ b. cond (b && has) Nobody wait) within)
    by_place (behind past other beyond) =
        let at = as_it_was past in
        let not : kind wait ≡ false = is ∙ ap (λ b. here && b) other ∙ never here in
        second ∙ ap (λ w. cond (kind w) Nobody w) at ∙ ap (λ b. cond b Nobody wait) not
        ∙ sym (ap (λ b. cond (b && has) Nobody wait) beyond)

module _ (sides : List SideState) (n : ℕ) where
  abbrev kind : Wait → Bool
  kind w = ends_by_batch n (has_taken (side_in sides n)) (has_put_items (side_in sides n)) w

  kind_nobody : kind Nobody ≡ false
  kind_nobody =
      ap (λ b. b || (has_taken (side_in sides n) && false)) (never (has_put_items (side_in sides n)))
      ∙ never (has_taken (side_in sides n))

  one_more_wait : (wait between now : Wait) → between ≡ wait_joined_below n sides wait
      → now ≡ cond (kind between) Nobody between → now ≡ wait_joined_below (n + 1) sides wait
  one_more_wait Nobody between now first second =
      second ∙ ap (λ w. cond (kind w) Nobody w) first ∙ nobody (kind Nobody)
  one_more_wait (Empty c) between now first second =
      wait_on c n (Empty c) between now kind (has_put_items (side_in sides c)) (has_put_items (side_in sides n))
      (λ same. ap (λ d. has_put_items (side_in sides d)) (sym same)) kind_nobody
      (ap (λ b. (has_put_items (side_in sides n) && eqb n c) || b) (never (has_taken (side_in sides n)))
      ∙ no_more (has_put_items (side_in sides n) && eqb n c)) first second
  one_more_wait (Full c) between now first second =
      wait_on c n (Full c) between now kind (has_taken (side_in sides c)) (has_taken (side_in sides n))
      (λ same. ap (λ d. has_taken (side_in sides d)) (sym same)) kind_nobody
      (ap (λ b. b || (has_taken (side_in sides n) && eqb n c)) (never (has_put_items (side_in sides n)))) first second

not_below_zero : (c : ℕ) → ltb c 0 ≡ false
not_below_zero c = grind (arith, nat_tests)

no_wait_joined : (sides : List SideState) (w : Wait) → w ≡ wait_joined_below 0 sides w
no_wait_joined sides Nobody = refl
no_wait_joined sides (Empty c) =
    sym (ap (λ b. cond (b && has_put_items (side_in sides c)) Nobody (Empty c)) (not_below_zero c))
no_wait_joined sides (Full c) =
    sym (ap (λ b. cond (b && has_taken (side_in sides c)) Nobody (Full c)) (not_below_zero c))

-- on a channel that the network does not have, nothing happens
all_waits_joined : (sides : List SideState) (w : Wait) → wait_joined_below (length sides) sides w ≡ wait_joined sides w
all_waits_joined sides Nobody = refl
all_waits_joined sides (Empty c) =
    elim (cases_lt c (length sides)) [
      | inl below ↦
          ap (λ b. cond (b && has_put_items (side_in sides c)) Nobody (Empty c))
          (let e : ltb c (length sides) ≡ true = grind (arith, nat_tests) in e)
      | inr past ↦
          let none : has_put_items (side_in sides c) ≡ false = ap has_put_items (get_or_past sides c no_side past) in
          ap (λ b. cond (ltb c (length sides) && b) Nobody (Empty c)) none
          ∙ ap (λ b. cond b Nobody (Empty c)) (never (ltb c (length sides)))
          ∙ sym (ap (λ b. cond b Nobody (Empty c)) none)
    ]
all_waits_joined sides (Full c) =
    elim (cases_lt c (length sides)) [
      | inl below ↦
          ap (λ b. cond (b && has_taken (side_in sides c)) Nobody (Full c))
          (let e : ltb c (length sides) ≡ true = grind (arith, nat_tests) in e)
      | inr past ↦
          let none : has_taken (side_in sides c) ≡ false = ap has_taken (get_or_past sides c no_side past) in
          ap (λ b. cond (ltb c (length sides) && b) Nobody (Full c)) none
          ∙ ap (λ b. cond b Nobody (Full c)) (never (ltb c (length sides)))
          ∙ sym (ap (λ b. cond b Nobody (Full c)) none)
    ]

-- ---- the channels in turn

module _ (b : Batch) (before : Machine) where
  pub none_joined : AreWaits b.tables before.waits → JoinsChannels b 0 before before
  none_joined waits =
      record {
        channels = refl;
        waits = waits;
        closed = refl;
        ends = refl;
        frames = refl;
        joined = λ c below. absurd (omega (arith, below));
        others = λ c past. refl;
        each_wait = λ p. no_wait_joined b.now.sides (wait_in before p);
      }

  module _ (n : ℕ) (between after : Machine) (so_far : JoinsChannels b n before between)
      (there : n < length before.channels) (next : JoinsChannel b n between after) where
    channels_are : after.channels
        ≡ (with_channel n (channel_in after n) between).channels
    channels_are = ap (λ (s : Machine). s.channels) next.rest

    same_channel : (c : ℕ) → c ≢ n → channel_in after c ≡ channel_in between c
    same_channel c differ =
        ap (λ xs. get_or xs c (opened None false)) channels_are
        ∙ get_or-set_other between.channels n c (channel_in after n) (opened None false) differ

    pub one_more_joined : JoinsChannels b (n + 1) before after
    one_more_joined =
        record {
          channels = ap length channels_are ∙ length-set between.channels n (channel_in after n) ∙ so_far.channels;
          waits = next.waits;
          closed = ap (λ (s : Machine). s.closed) next.rest ∙ so_far.closed;
          ends = ap (λ (s : Machine). s.ends) next.rest ∙ so_far.ends;
          frames = ap (λ (s : Machine). s.frames) next.rest ∙ so_far.frames;
          joined = λ c below.
              elim (cases_eq c n) [
                | inl same ↦
                    subst (λ d. IsChannelJoined (side_at b.now d) (channel_in before d) (channel_in after d)) (sym same)
                    (subst (λ x. IsChannelJoined (side_at b.now n) x (channel_in after n))
                    (so_far.others n (omega arith)) next.channel)
                | inr differ ↦
                    subst (λ x. IsChannelJoined (side_at b.now c) (channel_in before c) x)
                    (sym (same_channel c differ)) (so_far.joined c (omega (arith, below, differ)))
              ];
          others = λ c past.
              same_channel c (λ same. absurd (omega (arith, same, past))) ∙ so_far.others c (omega (arith, past));
          each_wait = λ p.
              one_more_wait b.now.sides n (wait_in before p) (wait_in between p) (wait_in after p)
              (so_far.each_wait p) (next.woken.each p);
        }

-- ---- the frames in turn

module _ (b : Batch) (before : Machine) where
  pub no_frames_joined : JoinsFrames b 0 before before
  no_frames_joined =
      record {
        rest = refl;
        frames = refl;
        each_frame = λ p below. absurd (omega (arith, below));
        others = λ p past. refl;
      }

  module _ (n : ℕ) (between : Machine) (so_far : JoinsFrames b n before between)
      (there : n < length before.frames) where
    at_n : frame_in between n ≡ frame_in before n
    at_n = so_far.others n (omega arith)

    frame_joined : (w : Bool) → is_in_region b.now n ≡ w
        → JoinsFrames b (n + 1) before (cond w (with_frame n (frame_at b.now n) between) between)
    frame_joined true is =
        record {
          rest = ap (λ (s : Machine). with_frame n (frame_at b.now n) s) so_far.rest;
          frames = length-set between.frames n (frame_at b.now n) ∙ so_far.frames;
          each_frame = λ p below.
              elim (cases_eq p n) [
                | inl same ↦
                    subst (λ q. frame_in (with_frame n (frame_at b.now n) between) q
                    ≡ cond (is_in_region b.now q) (frame_at b.now q) (frame_in before q)) (sym same)
                    (get_or-set_same between.frames n (frame_at b.now n) no_frame
                    (subst (λ k. n < k) (sym so_far.frames) there)
                    ∙ sym (ap (λ x. cond x (frame_at b.now n) (frame_in before n)) is))
                | inr differ ↦
                    get_or-set_other between.frames n p (frame_at b.now n) no_frame differ
                    ∙ so_far.each_frame p (omega (arith, below, differ))
              ];
          others = λ p past.
              get_or-set_other between.frames n p (frame_at b.now n) no_frame
              (λ same. absurd (omega (arith, same, past)))
              ∙ so_far.others p (omega (arith, past));
        }
    frame_joined false is =
        record {
          rest = so_far.rest;
          frames = so_far.frames;
          each_frame = λ p below.
              elim (cases_eq p n) [
                | inl same ↦
                    subst (λ q. frame_in between q
                    ≡ cond (is_in_region b.now q) (frame_at b.now q) (frame_in before q)) (sym same)
                    (at_n ∙ sym (ap (λ x. cond x (frame_at b.now n) (frame_in before n)) is))
                | inr differ ↦ so_far.each_frame p (omega (arith, below, differ))
              ];
          others = λ p past. so_far.others p (omega (arith, past));
        }

    pub one_more_frame : (after : Machine)
        → after ≡ cond (is_in_region b.now n) (with_frame n (frame_at b.now n) between) between
        → JoinsFrames b (n + 1) before after
    one_more_frame after is = subst (JoinsFrames b (n + 1) before) (sym is) (frame_joined (is_in_region b.now n) refl)

-- ---- all of it

pub all_joined : (b : Batch) → IsBatch b → (before between after : Machine)
    → JoinsChannels b (length b.tables.channels) before between
    → JoinsFrames b (length b.tables.instances) between after → AreWaits b.tables before.waits
    → Joins b before after
all_joined b is before between after channels frames waits =
    let whole = frames.rest in
    record {
      channels = ap (λ (s : Machine). length s.channels) whole ∙ channels.channels;
      waits =
          ap (λ (s : Machine). length s.waits) whole
          ∙ channels.waits.one_each ∙ sym waits.one_each;
      frames = frames.frames ∙ ap length channels.frames;
      closed = ap (λ (s : Machine). s.closed) whole ∙ channels.closed;
      ends = ap (λ (s : Machine). s.ends) whole ∙ channels.ends;
      each_channel = λ c below.
          subst (λ x. IsChannelJoined (side_at b.now c) (channel_in before c) x)
          (sym (ap (λ (s : Machine). channel_in s c) whole)) (channels.joined c below);
      each_wait = λ p there.
          ap (λ (s : Machine). wait_in s p) whole
          ∙ channels.each_wait p
          ∙ ap (λ n. wait_joined_below n b.now.sides (wait_in before p)) (sym is.is.sides)
          ∙ all_waits_joined b.now.sides (wait_in before p);
      each_frame = λ p there.
          frames.each_frame p there
          ∙ ap (λ fs. cond (is_in_region b.now p) (frame_at b.now p) (get_or fs p no_frame)) channels.frames;
    }
