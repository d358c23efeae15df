-- The processes for which a growth is owed: the members of its cycle, or at a stop all. They stand still. In no other
-- run from the same lists do they make more unless the same channel has grown as often. So no two runs differ in which
-- channel grows next.
use Rattle.kpn_history.proofs.Common.{Contains, cons_option, ◌≡◌, ℕ, ◌<◌, ◌⊎◌, List, [], ◌∷◌, length, Option, Some, None, refl, sym, ap, ◌∙◌, subst, inl, inr, arith, Contains-permutation, IsPermutation-sym, IsPrefix-antisym, Wait, Nobody, Empty, Full, End, Process, Source, Sink, Tables, channel_at, capacity, writer_of, reader_of, IsNetwork, Family, wait_at, process_at, awaited, full_channel, full_channels, WaitInTurn, Event, WaitEmpty, WaitFull, Ended, last_event, talk_of, after_growths, capacity_after, capacity_or_zero, wait_of, waits_of, IsBlockedCycle, full_in_cycle, wait_made, OwesGrowth, Legal, HasStopped, IsSettled, PutsNoMore, CanGrow, growths_of, IsRunFrom, awaited_among, Contains-first, Contains-later, Contains-cases, Contains-none, IsNoLarger, full_at, rotated, cycle_below, source-writer_of, Writes-writer_of, writer_is_no_sink}
use Rattle.std.specs.Option.{option_map, unwrap_or}
use Rattle.kpn_history.proofs.Above.{empty_wait}
use Rattle.kpn_history.proofs.EarlierWaits.{KeepsWaits, turn_kept, full_kept, wait_at-waits_of}
use Rattle.kpn_history.proofs.Growth.{full_wait, blocked_in_table, no_cycle_can_grow}
use Rattle.kpn_history.proofs.OwnWaits.{wait_on_empty, wait_on_full}
use Rattle.kpn_history.proofs.Stops.{waits_for_blocked}
use Rattle.kpn_history.proofs.Rests.{rest_waits, ends_last, same_rest}
use Rattle.kpn_history.proofs.Standing.{StandsAmong, Stand, AreWithin}

-- ---- members of a cycle

-- the process that a member waits for is a member
record NextMember (t : Tables) (waits : List Wait) (others : List ℕ) (z q : ℕ) : Type 0 where
  next : ℕ
  awaited : awaited t (wait_at waits q) ≡ Some next
  member : (next ≡ z) ⊎ Contains others next

next_member : (t : Tables) (waits : List Wait) (p : ℕ) (others : List ℕ) (z : ℕ) → WaitInTurn t waits p others z
    → (q : ℕ) → Contains (p ∷ others) q → NextMember t waits others z q
next_member t waits p [] z turn q h =
    elim (Contains-cases p [] q h) [
      | inl same ↦
          subst (NextMember t waits [] z) same
          (record { next = z; awaited = turn.awaited; member = inl refl })
      | inr none ↦ absurd (Contains-none q none)
    ]
next_member t waits p (r ∷ others) z turn q h =
    elim (Contains-cases p (r ∷ others) q h) [
      | inl same ↦
          subst (NextMember t waits (r ∷ others) z) same
          (record { next = r; awaited = turn.0.awaited; member = inr (Contains-first r others) })
      | inr later ↦
          let n = next_member t waits r others z turn.1 q later in
          record {
            next = n.next;
            awaited = n.awaited;
            member = elim n.member [
              | inl last ↦ inl last
              | inr among ↦ inr (Contains-later r others n.next among)
            ];
          }
    ]

next_in_cycle : (t : Tables) (waits : List Wait) (p : ℕ) (others : List ℕ) → WaitInTurn t waits p others p → (q : ℕ)
    → Contains (p ∷ others) q → (r : ℕ) × ((awaited t (wait_at waits q) ≡ Some r) × Contains (p ∷ others) r)
next_in_cycle t waits p others turn q h =
    let n = next_member t waits p others p turn q h in (
      n.next,
      (
        n.awaited,
        elim n.member [
          | inl first ↦ subst (Contains (p ∷ others)) (sym first) (Contains-first p others)
          | inr among ↦ Contains-later p others n.next among
        ],
      ),
    )

-- a full channel of one of some processes is among those of all
full_among : (waits : List Wait) (members : List ℕ) (q c : ℕ) → Contains members q
    → full_channel (wait_at waits q) ≡ Some c → Contains (full_channels waits members) c
full_among waits [] q c h is = absurd (Contains-none q h)
full_among waits (p ∷ members) q c h is =
    elim (Contains-cases p members q h) [
      | inl same ↦
          subst (λ o. Contains (cons_option o (full_channels waits members)) c)
          (sym (subst (λ x. full_channel (wait_at waits x) ≡ Some c) (sym same) is))
          (Contains-first c (full_channels waits members))
      | inr later ↦ behind (full_channel (wait_at waits p)) (full_among waits members q c later is)
    ]
  where
    behind : (o : Option ℕ) → Contains (full_channels waits members) c
        → Contains (cons_option o (full_channels waits members)) c
    behind None k = k
    behind (Some d) k = Contains-later d (full_channels waits members) c k

-- ---- they stand still

pub process_of_end : (end : End) (q : ℕ) → process_at end ≡ Some q → end ≡ Process q
process_of_end (Process p) q e = let same : p ≡ q = cc in ap Process same
process_of_end Source q e = absurd cc
process_of_end Sink q e = absurd cc

-- the processes for which a growth is owed
abbrev pub OwedTo : (t : Tables) (H : List Event) (p d : ℕ) → OwesGrowth t H p d → ℕ → Type 0
OwedTo t H p d (inl owed) q = Contains (p ∷ owed.others) q
OwedTo t H p d (inr owed) q = q < length t.instances

module _ (t : Tables) (network : IsNetwork t) (H : List Event) (legal : Legal t H) where
  -- a process that waits for one of these
  stands_by_wait : (Z : ℕ → Type 0) (p : ℕ) → p < length t.instances → (q : ℕ) → Z q → (w : Wait)
      → wait_of t H p ≡ w → awaited t w ≡ Some q → StandsAmong t H Z p
  stands_by_wait Z p below q of_q Nobody is for = absurd cc
  stands_by_wait Z p below q of_q (Empty c) is for =
      let w = empty_wait t H (last_event H p) c is in
      record {
        there = below;
        event = WaitEmpty w.process c;
        rests = record { last = w.is; is = w.empty };
        awaits = subst (PutsNoMore Z H c) (sym (process_of_end (writer_of t c) q for)) of_q;
      }
  stands_by_wait Z p below q of_q (Full c) is for =
      let w = full_wait t H (last_event H p) c is in
      record {
        there = below;
        event = WaitFull w.process c;
        rests = record { last = w.is; is = w.full };
        awaits = (q, (process_of_end (reader_of t c) q for, of_q));
      }

  pub cycle_stands : (p : ℕ) (others : List ℕ) → IsBlockedCycle t H p others → Stand t H (Contains (p ∷ others))
  cycle_stands p others cycle q h =
      let below = cycle_below t (waits_of t H) p others cycle q h in
      let next = next_in_cycle t (waits_of t H) p others cycle.in_turn q h in
      stands_by_wait (Contains (p ∷ others)) q below next.0 next.1.1 (wait_of t H q) refl
      (ap (awaited t) (sym (wait_at-waits_of t H q below)) ∙ next.1.0)

  -- in a settled history all processes stand still
  pub all_stand : IsSettled t H → Stand t H (λ p. p < length t.instances)
  all_stand settled p below = by_stop (settled.processes p below)
    where
      puts_no_more : (c : ℕ) → c < length t.channels → (writer : End) → writer_of t c ≡ writer
          → PutsNoMore (λ q. q < length t.instances) H c writer
      puts_no_more c there (Process q) w = (Writes-writer_of t q c w).process
      puts_no_more c there Source w = settled.sources c there (source-writer_of t c w)
      puts_no_more c there Sink w = absurd (writer_is_no_sink t network c there w)

      by_stop : HasStopped t H p → StandsAmong t H (λ q. q < length t.instances) p
      by_stop (inl ended) =
          let last = ends_last t p H legal ended in
          record {
            there = below;
            event = Ended p last.0;
            rests = record { last = last.1; is = tt };
            awaits = tt;
          }
      by_stop (inr (inl waits)) =
          let w = empty_wait t H (last_event H p) waits.channel waits.blocked in
          record {
            there = below;
            event = WaitEmpty w.process waits.channel;
            rests = record { last = w.is; is = w.empty };
            awaits =
                puts_no_more waits.channel (wait_on_empty t network H legal p waits.channel waits.blocked).there
                (writer_of t waits.channel) refl;
          }
      by_stop (inr (inr waits)) =
          let next = waits_for_blocked t network H legal settled p waits in
          stands_by_wait (λ q. q < length t.instances) p below next.next next.there (wait_of t H p) refl next.awaited

  pub owed_stand : (p d : ℕ) (owed : OwesGrowth t H p d) → Stand t H (OwedTo t H p d owed)
  owed_stand p d (inl owed) = cycle_stands p owed.others owed.cycle
  owed_stand p d (inr owed) = all_stand owed.settled

  -- one of them waits for it
  record WaitsForGrowth (p d : ℕ) (owed : OwesGrowth t H p d) : Type 0 where
    process : ℕ
    member : OwedTo t H p d owed process
    waits : wait_of t H process ≡ Full d

  waits_for_growth : (p d : ℕ) (owed : OwesGrowth t H p d) → WaitsForGrowth p d owed
  waits_for_growth p d (inl owed) =
      let at_d = full_at (waits_of t H) (p ∷ owed.others) d owed.smallest.among in
      let below = cycle_below t (waits_of t H) p owed.others owed.cycle at_d.member at_d.among in
      record {
        process = at_d.member;
        member = at_d.among;
        waits = blocked_in_table t H at_d.member d below at_d.full;
      }
  waits_for_growth p d (inr owed) = record { process = p; member = owed.there; waits = owed.waits }

  in_table : (q c : ℕ) → q < length t.instances → wait_of t H q ≡ Full c
      → full_channel (wait_at (waits_of t H) q) ≡ Some c
  in_table q c below waits = ap full_channel (wait_at-waits_of t H q below ∙ waits)

  -- and no smaller one is waited for
  least_of_owed : (p d : ℕ) (owed : OwesGrowth t H p d) (q c : ℕ) → OwedTo t H p d owed q → wait_of t H q ≡ Full c
      → IsNoLarger (capacity_or_zero t H) d c
  least_of_owed p d (inl owed) q c member waits =
      let below = cycle_below t (waits_of t H) p owed.others owed.cycle q member in
      owed.smallest.least c
      (full_among (waits_of t H) (p ∷ owed.others) q c member (in_table q c below waits))
  least_of_owed p d (inr owed) q c member waits =
      owed.smallest.least c (awaited_among t (waits_of t H) q c member (in_table q c member waits))

-- ---- two histories

pub same_capacity : (t : Tables) (H G : List Event) (c : ℕ) → growths_of H c ≡ growths_of G c
    → capacity_after t H c ≡ capacity_after t G c
same_capacity t H G c same = ap (λ times. option_map (after_growths t times) (capacity (channel_at t c))) same

module _ (t : Tables) (network : IsNetwork t) (given : Family) (H G : List Event) (run-H : IsRunFrom t given H)
    (run-G : IsRunFrom t given G) where
  -- a process that stands still in both, and said the same, waits for the same
  pub same_wait : (Z Y : ℕ → Type 0) (p : ℕ) → StandsAmong t H Z p → StandsAmong t G Y p → talk_of H p ≡ talk_of G p
      → wait_of t H p ≡ wait_of t G p
  same_wait Z Y p a b same =
      rest_waits t H p a.event a.rests
      ∙ ap wait_made
      (same_rest t network H G run-H.legal run-G.legal p a.there same a.event b.event a.rests b.rests)
      ∙ sym (rest_waits t G p b.event b.rests)

  -- of some processes that stand still in each, the second has made no more of those of the first, nor the first of
  -- those of the second
  module _ (Z Y : ℕ → Type 0) (stand-H : Stand t H Z) (stand-G : Stand t G Y) (within : AreWithin t G H Z)
      (back : AreWithin t H G Y) where
    pub waits_alike : (p : ℕ) → Z p → Y p → wait_of t H p ≡ wait_of t G p
    waits_alike p of_Z of_Y =
        same_wait Z Y p (stand-H p of_Z) (stand-G p of_Y)
        (IsPrefix-antisym (talk_of H p) (talk_of G p) (back.said p of_Y) (within.said p of_Z))

    grown_alike : (p c : ℕ) → Z p → Y p → wait_of t H p ≡ Full c → growths_of H c ≡ growths_of G c
    grown_alike p c of_Z of_Y waits =
        let fewer = within.grown p c of_Z waits in
        let more = back.grown p c of_Y (sym (waits_alike p of_Z of_Y) ∙ waits) in
        omega arith

    -- processes of the first that wait in turn are all of the second if the first one is, and those of the second wait
    -- for one another
    all_shared : ((y : ℕ) → Y y → (r : ℕ) × ((awaited t (wait_at (waits_of t G) y) ≡ Some r) × Y r)) → (x : ℕ)
        (xs : List ℕ) (z : ℕ) → WaitInTurn t (waits_of t H) x xs z → ((y : ℕ) → Contains (x ∷ xs) y → Z y) → Y x
        → (u : ℕ) → Contains (x ∷ xs) u → Y u
    all_shared closed x [] z turn of_Z of_Y u h =
        elim (Contains-cases x [] u h) [
          | inl same ↦ subst Y same of_Y
          | inr none ↦ absurd (Contains-none u none)
        ]
    all_shared closed x (y ∷ xs) z turn of_Z of_Y u h =
        elim (Contains-cases x (y ∷ xs) u h) [
          | inl same ↦ subst Y same of_Y
          | inr later ↦
              let own = of_Z x (Contains-first x (y ∷ xs)) in
              let below = (stand-H x own).there in
              let next = closed x of_Y in
              let tables : wait_at (waits_of t H) x ≡ wait_at (waits_of t G) x =
              wait_at-waits_of t H x below ∙ waits_alike x own of_Y ∙ sym (wait_at-waits_of t G x below) in
              let same : next.0 ≡ y =
              one_number next.0 y (sym next.1.0 ∙ ap (awaited t) (sym tables) ∙ turn.0.awaited) in
              all_shared closed y xs z turn.1 (λ v among. of_Z v (Contains-later x (y ∷ xs) v among))
              (subst Y same next.1.1) u later
        ]
      where
        one_number : (a b : ℕ) → ◌≡◌ {A = Option ℕ} (Some a) (Some b) → a ≡ b
        one_number a b e = cc

  -- a cycle of the second history whose members wait for the same in the first one, with a channel that has grown as
  -- often and is below the limit
  pub cycle_carried : (q : ℕ) (others : List ℕ) → IsBlockedCycle t G q others
      → ((y : ℕ) → Contains (q ∷ others) y → wait_of t H y ≡ wait_of t G y) → (e : ℕ)
      → Contains (full_in_cycle t G q others) e → growths_of H e ≡ growths_of G e → capacity_or_zero t G e < t.limit
      → CanGrow t H
  cycle_carried q others cycle same e full grown below =
      record {
        process = q;
        others = others;
        cycle = record {
          distinct = cycle.distinct;
          in_turn = turn_kept t (waits_of t G) (waits_of t H) q others q keeps cycle.in_turn;
        };
        channel = e;
        full =
            subst (λ cs. Contains cs e)
            (sym (full_kept t (waits_of t G) (waits_of t H) q others q keeps cycle.in_turn)) full;
        below_limit = subst (λ o. unwrap_or o 0 < t.limit) (sym (same_capacity t H G e grown)) below;
      }
    where
      keeps : KeepsWaits t (waits_of t G) (waits_of t H) (q ∷ others)
      keeps y r among is =
          let there = cycle_below t (waits_of t G) q others cycle y among in
          wait_at-waits_of t H y there ∙ same y among ∙ sym (wait_at-waits_of t G y there)

  -- ---- no two runs differ in which channel grows next

  -- two channels, each the smallest where its growth is owed
  smallest_in_both : (p d q e : ℕ) (a : OwesGrowth t H p d) (b : OwesGrowth t G q e)
      → AreWithin t G H (OwedTo t H p d a) → AreWithin t H G (OwedTo t G q e b)
      → growths_of H e ≡ growths_of G e → (u w : ℕ)
      → OwedTo t H p d a u → OwedTo t G q e b u → wait_of t H u ≡ Full d
      → OwedTo t H p d a w → wait_of t H w ≡ Full e → d ≡ e
  smallest_in_both p d q e a b within back same u w of_H of_G waits-u member waits-w =
      let stand-H = owed_stand t network H run-H.legal p d a in
      let stand-G = owed_stand t network G run-G.legal q e b in
      let here = least_of_owed t network H run-H.legal p d a w e member waits-w in
      let there =
      least_of_owed t network G run-G.legal q e b u d of_G
      (sym (waits_alike (OwedTo t H p d a) (OwedTo t G q e b) stand-H stand-G within back u of_H of_G) ∙ waits-u) in
      let at_d : capacity_or_zero t H d ≡ capacity_or_zero t G d =
      ap (λ o. unwrap_or o 0)
      (same_capacity t H G d
      (grown_alike (OwedTo t H p d a) (OwedTo t G q e b) stand-H stand-G within back u d of_H of_G waits-u)) in
      let at_e : capacity_or_zero t H e ≡ capacity_or_zero t G e =
      ap (λ o. unwrap_or o 0) (same_capacity t H G e same) in
      elim here [
        | inl less ↦ elim there [ inl more ↦ absurd (omega arith) | inr tie ↦ absurd (omega arith) ]
        | inr tie ↦ elim there [ inl more ↦ absurd (omega arith) | inr other ↦ omega arith ]
      ]

  -- the process that waits for the growth in the second history is the one that writes the channel in the first
  waits_there : (q e : ℕ) (b : OwesGrowth t G q e) (w : ℕ) → wait_of t H w ≡ Full e → OwedTo t G q e b w
  waits_there q e b w waits =
      let g = waits_for_growth t network G run-G.legal q e b in
      let one = (wait_on_full t network G run-G.legal g.process e g.waits).writes in
      let other = (wait_on_full t network H run-H.legal w e waits).writes in
      subst (OwedTo t G q e b) (same_process g.process w (sym one ∙ other)) g.member
    where
      same_process : (x y : ℕ) → ◌≡◌ {A = End} (Process x) (Process y) → x ≡ y
      same_process x y is = cc

  pub one_next : (p d q e : ℕ) (a : OwesGrowth t H p d) (b : OwesGrowth t G q e)
      → AreWithin t G H (OwedTo t H p d a) → AreWithin t H G (OwedTo t G q e b)
      → growths_of H e ≡ growths_of G e → (w : ℕ) → OwedTo t H p d a w → wait_of t H w ≡ Full e → d ≡ e
  one_next p d q e a (inr stop) within back same w member waits =
      let g = waits_for_growth t network H run-H.legal p d a in
      smallest_in_both p d q e a (inr stop) within back same g.process w g.member
      (owed_stand t network H run-H.legal p d a g.process g.member).there g.waits member waits
  one_next p d q e (inl a) (inl b) within back same w member waits =
      let g = waits_for_growth t network H run-H.legal p d (inl a) in
      let round = rotated t (waits_of t H) p a.others a.cycle w member in
      let shared =
      all_shared (Contains (p ∷ a.others)) (Contains (q ∷ b.others))
      (cycle_stands t network H run-H.legal p a.others a.cycle)
      (cycle_stands t network G run-G.legal q b.others b.cycle) within back
      (next_in_cycle t (waits_of t G) q b.others b.cycle.in_turn) w round.rest w round.cycle.in_turn
      (λ y among.
      Contains-permutation (w ∷ round.rest) (p ∷ a.others) y
      (IsPermutation-sym (p ∷ a.others) (w ∷ round.rest) round.members) among)
      (waits_there q e (inl b) w waits) g.process
      (Contains-permutation (p ∷ a.others) (w ∷ round.rest) g.process round.members g.member) in
      smallest_in_both p d q e (inl a) (inl b) within back same g.process w g.member shared g.waits member waits
  one_next p d q e (inr a) (inl b) within back same w member waits =
      let stand-G = cycle_stands t network G run-G.legal q b.others b.cycle in
      absurd
      (no_cycle_can_grow t network H run-H.legal a.no_cycle
      (cycle_carried q b.others b.cycle
      (λ y among.
      waits_alike (λ x. x < length t.instances) (Contains (q ∷ b.others))
      (all_stand t network H run-H.legal a.settled) stand-G within back y (stand-G y among).there among)
      e b.smallest.among same b.below_limit))
