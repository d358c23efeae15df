-- A batch played on a machine with which it agrees, event by event: each event is due, and what stands after it
-- agrees with what stands in the region.
use Rattle.std.proofs.Common.{◌≡◌, ◌≢◌, ℕ, ◌+◌, ◌<◌, ◌≤◌, ◌||◌, Bool, true, false, not, ℤ, cond, eqb, eq-eqb, ltb, lt-ltb, le-ltb, List, [], ◌∷◌, ◌++◌, length, get_or, slice_set, Option, Some, None, refl, sym, ap, ◌∙◌, subst, inl, inr, ◌⊎◌, arith, append-nil, append_assoc, length-append, length-set}
use Rattle.std.proofs.lemmas.Bool.{cases_eq, cases_lt, ne_eqb, eqb-true, false≢true}
use Rattle.kpn_region.proofs.Common.{get_or-set_same, get_or-set_other, get_or_past, slice_get_within, length_of_prefix, Wait, Nobody, Empty, Full, Tables, reader_of, writer_of, program_of, IsNetwork, Frame, advanced_of, ChannelState, opened, is_channel_full, next_item, after_put, after_get, Event, Get, Put, Take, is_of, OwesNothing, Machine, channel_in, wait_in, end_in, frame_in, no_frame, IsFree, PassesRead, PassesWrite, IsEndOf, IsRun, is_wait, woken_at, Made, Made-put, Made-got, Made-taken, SideState, no_side, with_next_taken, with_item_put, Local, is_in_region, frame_at, side_at, with_local_frame, IsLocal, Advances, RegionGets, RegionPuts, RegionTakes, LocalStep, Plays, no_event, steps_on, one_event_more, side_in, IsClaimOf, IsUnclaimedSink, TakesInOrder, has_put_items, has_taken, wait_joined}
use Rattle.kpn_net.specs.declared.tables.End.TheVariants.{Process}
use Rattle.kpn_history.specs.Channels.{written_on, read_on, lives}
use Rattle.kpn_history.specs.WaitsAfter.{wait_made}
use Rattle.kpn_history.specs.Waking.{wakes_reader, wakes_writer, wakes, wait_then}
use Rattle.kpn_history.specs.Legal.{HasNumbers, waiter}
use Rattle.kpn_history.proofs.Growth.{last_waiter-push}
use Rattle.kpn_history.proofs.Journals.{reads_begin_writes}
use Rattle.kpn_history.proofs.Stops.{is_blocked}
use Rattle.kpn_machine.specs.Due.{ReadsFrom, WritesTo, IsDueNow}
use Rattle.kpn_machine.proofs.Due.{Legal-due}
use Rattle.kpn_machine.proofs.Going.{reader_is_awake, writer_is_awake}
use Rattle.kpn_machine.proofs.Moving.{IsRun-moved}
use Rattle.kpn_machine.proofs.Ports.{reads_own, writes_own}
use Rattle.kpn_machine.proofs.Running.{IsRun-next}
use Rattle.kpn_region.proofs.OnTheWay.{IsOnTheWay, starts, got, gives, has_room, put_more}

-- ---- frames and waits after one event

-- the frames of the machine are those of the region, if one of each becomes another
frames_step : (within : List Bool) (of_region of_run of_start : List Frame) (p : ℕ) (g : Frame) → p < length of_region
    → p < length of_run → get_or within p false ≡ true
    → ((q : ℕ) → get_or of_run q no_frame
    ≡ cond (get_or within q false) (get_or of_region q no_frame) (get_or of_start q no_frame))
    → (q : ℕ) → get_or (slice_set of_run p g) q no_frame
    ≡ cond (get_or within q false) (get_or (slice_set of_region p g) q no_frame) (get_or of_start q no_frame)
frames_step within of_region of_run of_start p g there below in_it same q =
    elim (cases_eq q p) [
      | inl is ↦
          subst (λ k. get_or (slice_set of_run p g) k no_frame
          ≡ cond (get_or within k false) (get_or (slice_set of_region p g) k no_frame) (get_or of_start k no_frame))
          (sym is)
          (get_or-set_same of_run p g no_frame below
          ∙ sym (ap (λ b. cond b (get_or (slice_set of_region p g) p no_frame) (get_or of_start p no_frame)) in_it
          ∙ get_or-set_same of_region p g no_frame there))
      | inr differ ↦
          get_or-set_other of_run p q g no_frame differ ∙ same q
          ∙ ap (λ f. cond (get_or within q false) f (get_or of_start q no_frame))
          (sym (get_or-set_other of_region p q g no_frame differ))
    ]

module _ (t : Tables) (e : Event) (makes_none : wait_made e ≡ Nobody) (sides then : List SideState)
    (puts : (d : ℕ) → has_put_items (side_in then d) ≡ (has_put_items (side_in sides d) || wakes_reader d e))
    (takes : (d : ℕ) → has_taken (side_in then d) ≡ (has_taken (side_in sides d) || wakes_writer t d e)) (p : ℕ) where
  woken_or_not : (wait : Wait) (was now wakes_it : Bool) → now ≡ (was || wakes_it)
      → cond (wakes t e wait) Nobody wait ≡ cond wakes_it Nobody wait
      → cond (wakes t e (cond was Nobody wait)) Nobody (cond was Nobody wait) ≡ cond now Nobody wait
  woken_or_not wait true now wakes_it is same = sym (ap (λ b. cond b Nobody wait) is)
  woken_or_not wait false now wakes_it is same = same ∙ sym (ap (λ b. cond b Nobody wait) is)

  others : (w : Wait)
      → cond (wakes t e (wait_joined sides w)) Nobody (wait_joined sides w) ≡ wait_joined then w
  others Nobody = refl
  others (Empty d) =
      woken_or_not (Empty d) (has_put_items (side_in sides d)) (has_put_items (side_in then d)) (wakes_reader d e) (puts d) refl
  others (Full d) =
      woken_or_not (Full d) (has_taken (side_in sides d)) (has_taken (side_in then d)) (wakes_writer t d e) (takes d)
      refl

  still_nobody : (wait : Wait) → wait ≢ Nobody → (was now more : Bool) → now ≡ (was || more)
      → cond was Nobody wait ≡ Nobody → cond now Nobody wait ≡ Nobody
  still_nobody wait some true now more is nobody = ap (λ b. cond b Nobody wait) is
  still_nobody wait some false now more is nobody = absurd (some nobody)

  stays_free : (w : Wait) → wait_joined sides w ≡ Nobody → wait_joined then w ≡ Nobody
  stays_free Nobody is = refl
  stays_free (Empty d) is =
      still_nobody (Empty d) (λ x. absurd cc) (has_put_items (side_in sides d)) (has_put_items (side_in then d)) (wakes_reader d e)
      (puts d) is
  stays_free (Full d) is =
      still_nobody (Full d) (λ x. absurd cc) (has_taken (side_in sides d)) (has_taken (side_in then d))
      (wakes_writer t d e) (takes d) is

  waits_one : (w : Wait) → (is_of p e ≡ true → wait_joined sides w ≡ Nobody)
      → wait_then t e p (wait_joined sides w) ≡ wait_joined then w
  waits_one w free = by_own (is_of p e) refl
    where
      by_own : (own : Bool) → is_of p e ≡ own
          → cond own (wait_made e) (cond (wakes t e (wait_joined sides w)) Nobody (wait_joined sides w))
          ≡ wait_joined then w
      by_own true is = makes_none ∙ sym (stays_free w (free is))
      by_own false is = others w

-- ---- the sides after one event

pub side_same : (sides : List SideState) (c : ℕ) (side : SideState) → c < length sides
    → side_in (slice_set sides c side) c ≡ side
side_same sides c side there = get_or-set_same sides c side no_side there

pub side_other : (sides : List SideState) (c d : ℕ) (side : SideState) → d ≢ c
    → side_in (slice_set sides c side) d ≡ side_in sides d
side_other sides c d side differ = get_or-set_other sides c d side no_side differ

-- a test of the sides after one of them has become another
test_step : (test : SideState → Bool) (wakes_it : ℕ → Bool) (sides : List SideState) (c : ℕ) (side : SideState)
    → c < length sides → test side ≡ (test (side_in sides c) || wakes_it c) → ((d : ℕ) → d ≢ c → wakes_it d ≡ false)
    → (d : ℕ) → test (side_in (slice_set sides c side) d) ≡ (test (side_in sides d) || wakes_it d)
test_step test wakes_it sides c side there here elsewhere d =
    elim (cases_eq d c) [
      | inl same ↦
          subst (λ k. test (side_in (slice_set sides c side) k) ≡ (test (side_in sides k) || wakes_it k)) (sym same)
          (ap test (side_same sides c side there) ∙ here)
      | inr differ ↦
          ap test (side_other sides c d side differ)
          ∙ sym (ap (λ b. test (side_in sides d) || b) (elsewhere d differ) ∙ or_false (test (side_in sides d)))
    ]
  where
    or_false : (b : Bool) → (b || false) ≡ b
    or_false true = refl
    or_false false = refl

or_more : (b : Bool) → b ≡ true → (a : Bool) → true ≡ (a || b)
or_more b is true = refl
or_more b is false = sym is

or_same : (a b : Bool) → b ≡ false → a ≡ (a || b)
or_same true b is = refl
or_same false b is = sym is

-- ---- nothing is owed where a process is free and the last event is no wait

pub nothing_owed : (t : Tables) (B : List Event) (e : Event) → waiter e ≡ None → (s : Machine)
    → IsRun t (B ++ e ∷ []) s → (p : ℕ) → p < length t.instances → IsFree s p → OwesNothing t (B ++ e ∷ [])
nothing_owed t B e none s run p there free q d owed =
    elim owed [
      | inl cycle ↦
          let clash : ◌≡◌ {A = Option ℕ} None (Some q) = sym none ∙ sym (last_waiter-push B e) ∙ cycle.wait in absurd cc
      | inr stop ↦
          is_blocked t (B ++ e ∷ []) stop.settled p there
          (subst (IsEndOf (B ++ e ∷ []) p) free.lives (run.leads.ends p there))
          (sym (run.leads.waits p there) ∙ free.free)
    ]

-- ---- the batch, event by event

-- a process of a region is one of the network
pub within_there : (t : Tables) (l : Local) → IsLocal t l → (p : ℕ) → is_in_region l p ≡ true → p < length t.instances
within_there t l shape p in_it =
    elim (cases_lt p (length l.within)) [
      | inl below ↦ subst (λ n. p < n) shape.within below
      | inr past ↦ absurd (false≢true (sym (get_or_past l.within p false past) ∙ in_it))
    ]

-- no more was read from a channel than was written there
pub sound : (t : Tables) (H : List Event) (s : Machine) → IsRun t H s → (c : ℕ) → c < length t.channels
    → (channel_in s c).read ≤ length (channel_in s c).journal
sound t H s run c below =
    let holds = run.leads.channels c below in
    let less = length_of_prefix (read_on H c) (written_on H c) (reads_begin_writes t H run.legal c) in
    let a = holds.read in
    let b = ap length holds.journal in
    omega (arith, less, a, b)

pub record IsUnused (claim : SideState) : Type 0 where
  pub taken : claim.taken ≡ 0
  pub most : claim.most ≡ 0

-- the order in which items were taken from the channels
abbrev pub InOrder : Tables → Machine → Local → Type 0
InOrder t s l = (c : ℕ) → c < length t.channels → TakesInOrder (side_at l c) (channel_in s c)

-- the machine after these events, by what stands in the region after them
pub record IsReached (t : Tables) (H : List Event) (s : Machine) (first : Local) (events : List Event) (l : Local)
    : Type 0 where
  pub to : Machine
  pub run : IsRun t (H ++ events) to
  pub owes : OwesNothing t (H ++ events)
  pub within : l.within ≡ first.within
  pub frames : length l.frames ≡ length t.instances
  pub sides : length l.sides ≡ length t.channels
  pub each_channel : (c : ℕ) → c < length t.channels
      → IsOnTheWay (side_at first c) (side_at l c) (channel_in s c) (channel_in to c)
  pub closed : to.closed ≡ s.closed
  pub ends : to.ends ≡ s.ends
  pub each_wait : (p : ℕ) → p < length t.instances → wait_in to p ≡ wait_joined l.sides (wait_in s p)
  pub each_frame : (p : ℕ) → frame_in to p ≡ cond (is_in_region l p) (frame_at l p) (frame_in s p)
  pub begun : ((events ≡ []) × (l.sides ≡ first.sides)) ⊎ ((p : ℕ) × (p < length t.instances) × IsFree to p)

module _ (t : Tables) (network : IsNetwork t) (H : List Event) (s : Machine) (run : IsRun t H s)
    (owes : OwesNothing t H) (first : Local) (shape : IsLocal t first)
    (frames : (p : ℕ) → is_in_region first p ≡ true → frame_in s p ≡ frame_at first p)
    (not_ended : (p : ℕ) → is_in_region first p ≡ true → end_in s p ≡ None)
    (claims : (c : ℕ) → c < length t.channels → IsClaimOf t c (side_at first c) (channel_in s c))
    (unused : (c : ℕ) → c < length t.channels → IsUnused (side_at first c)) where
  abbrev Reached : List Event → Local → Type 0
  Reached events l = IsReached t H s first events l

  -- ---- no event yet

  start_frames : (p : ℕ) → frame_in s p ≡ cond (is_in_region first p) (frame_at first p) (frame_in s p)
  start_frames p = by_place (is_in_region first p) refl
    where
      by_place : (b : Bool) → is_in_region first p ≡ b → frame_in s p ≡ cond b (frame_at first p) (frame_in s p)
      by_place true in_it = frames p in_it
      by_place false out = refl

  nothing_put : (c : ℕ) → c < length t.channels → has_put_items (side_at first c) ≡ false
  nothing_put c below =
      let count = (claims c below).count in
      le-ltb (side_at first c).claimed (length (side_at first c).items) (omega (arith, count))

  nothing_taken : (c : ℕ) → c < length t.channels → has_taken (side_at first c) ≡ false
  nothing_taken c below = ap (λ n. ltb 0 n) (unused c below).taken

  start_waits : (p : ℕ) → p < length t.instances → wait_in s p ≡ wait_joined first.sides (wait_in s p)
  start_waits p there = by_wait (wait_in s p)
    where
      past : (c : ℕ) → length t.channels ≤ c → side_at first c ≡ no_side
      past c most = get_or_past first.sides c no_side (subst (λ n. n ≤ c) (sym shape.sides) most)

      puts_none : (c : ℕ) → has_put_items (side_at first c) ≡ false
      puts_none c =
          elim (cases_lt c (length t.channels)) [
            | inl below ↦ nothing_put c below
            | inr most ↦ ap has_put_items (past c most)
          ]

      takes_none : (c : ℕ) → has_taken (side_at first c) ≡ false
      takes_none c =
          elim (cases_lt c (length t.channels)) [
            | inl below ↦ nothing_taken c below
            | inr most ↦ ap has_taken (past c most)
          ]

      by_wait : (w : Wait) → w ≡ wait_joined first.sides w
      by_wait Nobody = refl
      by_wait (Empty c) = sym (ap (λ b. cond b Nobody (Empty c)) (puts_none c))
      by_wait (Full c) = sym (ap (λ b. cond b Nobody (Full c)) (takes_none c))

  start : Reached [] first
  start =
      record {
        to = s;
        run = subst (λ events. IsRun t events s) (sym (append-nil H)) run;
        owes = subst (OwesNothing t) (sym (append-nil H)) owes;
        within = refl;
        frames = shape.frames;
        sides = shape.sides;
        each_channel = λ c below.
            starts t c (side_at first c) (channel_in s c) (claims c below) (unused c below).taken (unused c below).most;
        closed = refl;
        ends = refl;
        each_wait = start_waits;
        each_frame = start_frames;
        begun = inl (refl, refl);
      }

  -- ---- steps between events

  advanced : (events : List Event) (before after : Local) → Reached events before → Advances t before after
      → Reached events after
  advanced events before after r a = subst (Reached events) (sym a.there) moved
    where
      p : ℕ
      p = a.process

      in_first : is_in_region first p ≡ true
      in_first = ap (λ ws. get_or ws p false) (sym r.within) ∙ a.within

      there : p < length t.instances
      there = within_there t first shape p in_first

      stood : frame_in r.to p ≡ frame_at before p
      stood = r.each_frame p ∙ ap (λ b. cond b (frame_at before p) (frame_in s p)) a.within

      moved : Reached events (with_local_frame p a.to before)
      moved =
          record {
            to = record r.to { frames = slice_set r.to.frames p a.to };
            run =
                IsRun-moved t r.to p a.to there r.run.shape (H ++ events)
                (advanced_of (program_of t p) (frame_at before p) a.to a.steps a.stop) a.advance refl (sym stood) refl
                r.run;
            owes = r.owes;
            within = r.within;
            frames = length-set before.frames p a.to ∙ r.frames;
            sides = r.sides;
            each_channel = r.each_channel;
            closed = r.closed;
            ends = r.ends;
            each_wait = r.each_wait;
            each_frame =
                frames_step before.within before.frames r.to.frames s.frames p a.to
                (subst (λ n. p < n) (sym r.frames) there) (subst (λ n. p < n) (sym r.run.shape.frames) there) a.within
                r.each_frame;
            begun = elim r.begun [
              | inl none ↦ inl none
              | inr mover ↦ inr (mover.0, mover.1, record { lives = mover.2.lives; free = mover.2.free })
            ];
          }

  -- ---- one event

  module _ (events : List Event) (l : Local) (r : Reached events l) where
    -- the machine after an event on channel c, which becomes ch, and its side this one
    module _ (e : Event) (c : ℕ) (below : c < length t.channels) (side : SideState) (ch : ChannelState)
        (to : Machine) (region_frames : List Frame) where
      there : c < length l.sides
      there = subst (λ n. c < n) (sym r.sides) below

      pub reached : HasNumbers t e → IsDueNow t r.to e → Made t e r.to to
          → to.channels ≡ slice_set r.to.channels c ch → to.closed ≡ r.to.closed → to.ends ≡ r.to.ends
          → IsOnTheWay (side_at first c) side (channel_in s c) ch
          → has_put_items side ≡ (has_put_items (side_at l c) || wakes_reader c e)
          → has_taken side ≡ (has_taken (side_at l c) || wakes_writer t c e)
          → ((d : ℕ) → d ≢ c → wakes_reader d e ≡ false) → ((d : ℕ) → d ≢ c → wakes_writer t d e ≡ false)
          → ((p : ℕ) → is_of p e ≡ true → wait_in r.to p ≡ Nobody)
          → waiter e ≡ None → wait_made e ≡ Nobody
          → length region_frames ≡ length l.frames
          → ((q : ℕ) → frame_in to q ≡ cond (is_in_region l q) (get_or region_frames q no_frame) (frame_in s q))
          → (p : ℕ) → p < length t.instances → end_in r.to p ≡ None
          → wait_then t e p (wait_in r.to p) ≡ Nobody
          → Reached (events ++ e ∷ []) (record l { frames = region_frames; sides = slice_set l.sides c side })
      reached numbers due made channels closed ends way puts takes no_reader no_writer own no_wait makes_none long
          each_frame p process alive awake =
          record {
            to = to;
            run = now;
            owes =
                subst (OwesNothing t) (append_assoc H events (e ∷ []))
                (nothing_owed t (H ++ events) e no_wait to
                (subst (λ es. IsRun t es to) (sym (append_assoc H events (e ∷ []))) now) p process free);
            within = r.within;
            frames = long ∙ r.frames;
            sides = length-set l.sides c side ∙ r.sides;
            each_channel = each_channel;
            closed = closed ∙ r.closed;
            ends = ends ∙ r.ends;
            each_wait = each_wait;
            each_frame = each_frame;
            begun = inr (p, process, free);
          }
        where
          now : IsRun t (H ++ (events ++ e ∷ [])) to
          now =
              subst (λ es. IsRun t es to) (append_assoc H events (e ∷ []))
              (IsRun-next t network (H ++ events) e r.to to r.run
              (Legal-due t network (H ++ events) r.to r.run r.owes e numbers due) made.changes made.shape)

          free : IsFree to p
          free =
              record {
                lives = ap (λ es. get_or es p None) ends ∙ alive;
                free = made.changes.waits p process ∙ awake;
              }

          each_channel : (d : ℕ) → d < length t.channels
              → IsOnTheWay (side_at first d) (side_in (slice_set l.sides c side) d) (channel_in s d) (channel_in to d)
          each_channel d less =
              subst (λ x. IsOnTheWay (side_at first d) (side_in (slice_set l.sides c side) d) (channel_in s d)
              (get_or x d (opened None false))) (sym channels)
              (elim (cases_eq d c) [
                | inl same ↦
                    subst (λ k. IsOnTheWay (side_at first k) (side_in (slice_set l.sides c side) k) (channel_in s k)
                    (get_or (slice_set r.to.channels c ch) k (opened None false))) (sym same)
                    (subst (λ x. IsOnTheWay (side_at first c) x (channel_in s c)
                    (get_or (slice_set r.to.channels c ch) c (opened None false))) (sym (side_same l.sides c side there))
                    (subst (λ x. IsOnTheWay (side_at first c) side (channel_in s c) x)
                    (sym (get_or-set_same r.to.channels c ch (opened None false)
                    (subst (λ n. c < n) (sym r.run.shape.channels) below))) way))
                | inr differ ↦
                    subst (λ x. IsOnTheWay (side_at first d) x (channel_in s d)
                    (get_or (slice_set r.to.channels c ch) d (opened None false)))
                    (sym (side_other l.sides c d side differ))
                    (subst (λ x. IsOnTheWay (side_at first d) (side_at l d) (channel_in s d) x)
                    (sym (get_or-set_other r.to.channels c d ch (opened None false) differ)) (r.each_channel d less))
              ])

          each_wait : (q : ℕ) → q < length t.instances
              → wait_in to q ≡ wait_joined (slice_set l.sides c side) (wait_in s q)
          each_wait q less =
              made.changes.waits q less
              ∙ ap (wait_then t e q) (r.each_wait q less)
              ∙ waits_one t e makes_none l.sides (slice_set l.sides c side)
              (test_step has_put_items (λ d. wakes_reader d e) l.sides c side there puts no_reader)
              (test_step has_taken (λ d. wakes_writer t d e) l.sides c side there takes no_writer) q (wait_in s q)
              (λ is. sym (r.each_wait q less) ∙ own q is)

    -- what an event needs before it: the region's process p stands where its frame is, and has not ended
    module _ (p : ℕ) (in_it : is_in_region l p ≡ true) where
      in_first : is_in_region first p ≡ true
      in_first = ap (λ ws. get_or ws p false) (sym r.within) ∙ in_it

      process : p < length t.instances
      process = within_there t first shape p in_first

      stood : frame_in r.to p ≡ frame_at l p
      stood = r.each_frame p ∙ ap (λ b. cond b (frame_at l p) (frame_in s p)) in_it

      alive : end_in r.to p ≡ None
      alive = ap (λ es. get_or es p None) r.ends ∙ not_ended p in_first

      goes_to : (g : Frame) (q : ℕ) → get_or (slice_set r.to.frames p g) q no_frame
          ≡ cond (is_in_region l q) (get_or (slice_set l.frames p g) q no_frame) (frame_in s q)
      goes_to g =
          frames_step l.within l.frames r.to.frames s.frames p g (subst (λ n. p < n) (sym r.frames) process)
          (subst (λ n. p < n) (sym r.run.shape.frames) process) in_it r.each_frame

      reader_stays : (c : ℕ) → c < length t.channels → reader_of t c ≡ Process p
          → (channel_in r.to c).is_retired ≡ false
      reader_stays c below own =
          (r.run.leads.channels c below).retired
          ∙ ap not (ap (lives (H ++ events) c) own
          ∙ ap not (subst (IsEndOf (H ++ events) p) alive (r.run.leads.ends p process)))

    same_side : (c : ℕ) (side : SideState) → c < length l.sides
        → (side_of : TakesInOrder (side_in (slice_set l.sides c side) c) (channel_in s c))
        → TakesInOrder side (channel_in s c)
    same_side c side there side_of = subst (λ x. TakesInOrder x (channel_in s c)) (side_same l.sides c side there) side_of

    get_on : (p c : ℕ) (v : ℤ) (after : Local) → RegionGets t p c v l after → InOrder t s after
        → Reached (events ++ Get p c v ∷ []) after
    get_on p c v after step order =
        subst (Reached (events ++ Get p c v ∷ [])) (sym step.there)
        (reached e c below side ch to (slice_set l.frames p step.to) (process p step.within, below) (free, reads, ready)
        made refl refl refl (got t c (side_at first c) (channel_in s c) of (side_at l c) now (sound t H s run c below) way v step.item)
        (or_same (has_put_items (side_at l c)) false refl)
        (lt-ltb 0 ((side_at l c).taken + 1) (omega arith)
        ∙ or_more (eqb c c) (eq-eqb c c refl) (has_taken (side_at l c)))
        (λ d differ. refl) (λ d differ. ne_eqb c d (λ x. differ (sym x)))
        (λ q is. subst (λ x. wait_in r.to x ≡ Nobody) (eqb-true p q is) awake)
        refl refl (length-set l.frames p step.to) (goes_to p step.within step.to) p (process p step.within)
        (alive p step.within)
        (ap (λ b. cond b Nobody (cond (wakes t e (wait_in r.to p)) Nobody (wait_in r.to p))) (eq-eqb p p refl)))
      where
        e : Event
        e = Get p c v

        below : c < length t.channels
        below = subst (λ n. c < n) r.sides step.channel

        of : IsClaimOf t c (side_at first c) (channel_in s c)
        of = claims c below

        side : SideState
        side = with_next_taken (side_at l c)

        now : ChannelState
        now = channel_in r.to c

        way : IsOnTheWay (side_at first c) (side_at l c) (channel_in s c) (channel_in r.to c)
        way = r.each_channel c below

        passes : PassesRead t p c v (frame_in r.to p) step.to
        passes = subst (λ f. PassesRead t p c v f step.to) (sym (stood p step.within)) step.passes

        reads : ReadsFrom t r.to p c
        reads = record { port = passes.port; channel = passes.channel; stands = passes.stood }

        ready : next_item now ≡ Some v
        ready =
            gives t c (side_at first c) (channel_in s c) of (side_at l c) now (sound t H s run c below) way v step.item
            (sym way.retired
            ∙ reader_stays p step.within c below (reads_own t network r.to p (process p step.within) c reads))
            (same_side c side step.channel
            (subst (λ x. TakesInOrder (side_at x c) (channel_in s c)) step.there (order c below)))

        awake : wait_in r.to p ≡ Nobody
        awake =
            reader_is_awake t network (H ++ events) r.to r.run p (process p step.within) c below v reads ready

        free : IsFree r.to p
        free = record { lives = alive p step.within; free = awake }

        ch : ChannelState
        ch = after_get (Some v) now.is_reserved now

        to : Machine
        to =
            record r.to {
              channels = slice_set r.to.channels c ch;
              waits = woken_at (is_wait (Full c)) r.to.waits (writer_of t c);
              frames = slice_set r.to.frames p step.to;
            }

        made : Made t e r.to to
        made =
            Made-got t r.to r.run.shape c v ch below (woken_at (is_wait (Full c)) r.to.waits (writer_of t c)) to refl
            (λ x. x) refl p step.to (process p step.within) free reads passes.passes refl

    put_on_channel : (p c : ℕ) (v : ℤ) (after : Local) → RegionPuts t p c v l after
        → Reached (events ++ Put p c v ∷ []) after
    put_on_channel p c v after step =
        subst (Reached (events ++ Put p c v ∷ [])) (sym step.there)
        (reached e c below side ch to (slice_set l.frames p step.to) (process p step.within, below) (free, writes, room)
        made refl refl refl
        (put_more t c (side_at first c) (channel_in s c) of (side_at l c) now (sound t H s run c below) way v)
        (lt-ltb side.claimed (length side.items) more ∙ or_more (eqb c c) (eq-eqb c c refl) (has_put_items (side_at l c)))
        (or_same (has_taken (side_at l c)) false refl)
        (λ d differ. ne_eqb c d (λ x. differ (sym x))) (λ d differ. refl)
        (λ q is. subst (λ x. wait_in r.to x ≡ Nobody) (eqb-true p q is) awake)
        refl refl (length-set l.frames p step.to) (goes_to p step.within step.to) p (process p step.within)
        (alive p step.within)
        (ap (λ b. cond b Nobody (cond (wakes t e (wait_in r.to p)) Nobody (wait_in r.to p))) (eq-eqb p p refl)))
      where
        e : Event
        e = Put p c v

        below : c < length t.channels
        below = subst (λ n. c < n) r.sides step.channel

        of : IsClaimOf t c (side_at first c) (channel_in s c)
        of = claims c below

        side : SideState
        side = with_item_put v (side_at l c)

        now : ChannelState
        now = channel_in r.to c

        way : IsOnTheWay (side_at first c) (side_at l c) (channel_in s c) (channel_in r.to c)
        way = r.each_channel c below

        more : (side_at l c).claimed < length ((side_at l c).items ++ v ∷ [])
        more =
            let long = length-append (side_at l c).items (v ∷ []) in
            let items = ap length way.items ∙ length-append (side_at first c).items way.puts in
            let count = way.claimed ∙ of.count in
            omega (arith, long, items, count)

        passes : PassesWrite t p c v (frame_in r.to p) step.to
        passes = subst (λ f. PassesWrite t p c v f step.to) (sym (stood p step.within)) step.passes

        writes : WritesTo t r.to p c v
        writes = record { port = passes.port; channel = passes.channel; stands = passes.stood }

        room : is_channel_full now ≡ false
        room = has_room t c (side_at first c) (channel_in s c) of (side_at l c) now (sound t H s run c below) way step.room

        awake : wait_in r.to p ≡ Nobody
        awake = writer_is_awake t network (H ++ events) r.to r.run p (process p step.within) c below v writes room

        free : IsFree r.to p
        free = record { lives = alive p step.within; free = awake }

        ch : ChannelState
        ch = after_put v false now

        to : Machine
        to =
            record r.to {
              channels = slice_set r.to.channels c ch;
              waits = woken_at (is_wait (Empty c)) r.to.waits (reader_of t c);
              frames = slice_set r.to.frames p step.to;
            }

        made : Made t e r.to to
        made =
            Made-put t r.to r.run.shape c v ch below (woken_at (is_wait (Empty c)) r.to.waits (reader_of t c)) to refl
            refl p (process p step.within) free writes
            (writes_own t network r.to p (process p step.within) c v writes) room
            (ap (λ f. record r.to {
              channels = slice_set r.to.channels c ch;
              waits = woken_at (is_wait (Empty c)) r.to.waits (reader_of t c);
              frames = slice_set r.to.frames p f;
            }) passes.passes)

    take_on : (c : ℕ) (v : ℤ) (after : Local) → RegionTakes c v l after → InOrder t s after
        → Reached (events ++ Take c v ∷ []) after
    take_on c v after step order =
        subst (Reached (events ++ Take c v ∷ [])) (sym step.there)
        (reached e c below side ch to l.frames below (sink.sink, ready) made refl refl refl
        (got t c (side_at first c) (channel_in s c) of (side_at l c) now (sound t H s run c below) way v step.item)
        (or_same (has_put_items (side_at l c)) false refl)
        (lt-ltb 0 ((side_at l c).taken + 1) (omega arith)
        ∙ or_more (eqb c c) (eq-eqb c c refl) (has_taken (side_at l c)))
        (λ d differ. refl) (λ d differ. ne_eqb c d (λ x. differ (sym x)))
        (λ q is. absurd (false≢true is)) refl refl refl r.each_frame mover.0 mover.1 mover.2.lives
        (ap (wait_then t e mover.0) mover.2.free))
      where
        e : Event
        e = Take c v

        below : c < length t.channels
        below = subst (λ n. c < n) r.sides step.channel

        of : IsClaimOf t c (side_at first c) (channel_in s c)
        of = claims c below

        side : SideState
        side = with_next_taken (side_at l c)

        now : ChannelState
        now = channel_in r.to c

        way : IsOnTheWay (side_at first c) (side_at l c) (channel_in s c) (channel_in r.to c)
        way = r.each_channel c below

        sink : IsUnclaimedSink t c (side_at first c) (channel_in s c)
        sink = of.drained (sym way.drained ∙ step.drained)

        -- it was empty, so a process has put there
        mover : (p : ℕ) × (p < length t.instances) × IsFree r.to p
        mover = elim r.begun [
          | inl none ↦
              let same : side_at l c ≡ side_at first c = ap (λ ss. get_or ss c no_side) none.1 in
              let less = slice_get_within (side_at l c).items (side_at l c).taken v step.item in
              let items = ap (λ x. length x.items) same in
              let count = of.count in
              let nothing = sink.none in
              absurd (omega (arith, less, items, count, nothing))
          | inr who ↦ who
        ]

        ready : next_item now ≡ Some v
        ready =
            gives t c (side_at first c) (channel_in s c) of (side_at l c) now (sound t H s run c below) way v step.item
            sink.open_still
            (same_side c side step.channel
            (subst (λ x. TakesInOrder (side_at x c) (channel_in s c)) step.there (order c below)))

        ch : ChannelState
        ch = after_get (Some v) now.is_reserved now

        to : Machine
        to =
            record r.to {
              channels = slice_set r.to.channels c ch;
              waits = woken_at (is_wait (Full c)) r.to.waits (writer_of t c);
            }

        made : Made t e r.to to
        made =
            Made-taken t r.to r.run.shape c v ch below (woken_at (is_wait (Full c)) r.to.waits (writer_of t c)) to refl
            (λ x. x) refl refl

  -- ---- all events

  -- items were taken in order before a channel's side became this one, of which no fewer were taken
  order_before : (l : Local) (c : ℕ) (side : SideState) → c < length l.sides → side.claimed ≡ (side_at l c).claimed
      → (side_at l c).taken ≤ side.taken
      → ((d : ℕ) → d < length t.channels → TakesInOrder (side_in (slice_set l.sides c side) d) (channel_in s d))
      → InOrder t s l
  order_before l c side there claimed more order d below =
      elim (cases_eq d c) [
        | inl same ↦
            subst (λ k. TakesInOrder (side_at l k) (channel_in s k)) (sym same)
            (elim (subst (λ x. TakesInOrder x (channel_in s c)) (side_same l.sides c side there)
            (subst (λ k. TakesInOrder (side_in (slice_set l.sides c side) k) (channel_in s k)) same (order d below))) [
              | inl early ↦ inl (omega (arith, early, more, claimed))
              | inr whole ↦ inr (sym claimed ∙ whole)
            ])
        | inr differ ↦
            subst (λ x. TakesInOrder x (channel_in s d)) (side_other l.sides c d side differ) (order d below)
      ]

  onward : (events : List Event) (before after : Local) (e : Event) → (InOrder t s before → Reached events before)
      → LocalStep t e before after → InOrder t s after → Reached (events ++ e ∷ []) after
  onward events before after (Get p c v) reach step order =
      get_on events before
      (reach (order_before before c (with_next_taken (side_at before c)) step.channel refl (omega arith)
      (λ d below. subst (λ x. TakesInOrder (side_at x d) (channel_in s d)) step.there (order d below))))
      p c v after step order
  onward events before after (Put p c v) reach step order =
      put_on_channel events before
      (reach (order_before before c (with_item_put v (side_at before c)) step.channel refl (omega arith)
      (λ d below. subst (λ x. TakesInOrder (side_at x d) (channel_in s d)) step.there (order d below))))
      p c v after step
  onward events before after (Take c v) reach step order =
      take_on events before
      (reach (order_before before c (with_next_taken (side_at before c)) step.channel refl (omega arith)
      (λ d below. subst (λ x. TakesInOrder (side_at x d) (channel_in s d)) step.there (order d below))))
      c v after step order
  onward events before after e reach step order = absurd step

  pub reaches : {events : List Event} {l : Local} → Plays t first events l → InOrder t s l → Reached events l
  reaches no_event order = start
  reaches (steps_on {events = es} before after plays a) order =
      advanced es before after
      (reaches plays (λ c below. subst (λ x. TakesInOrder (side_at x c) (channel_in s c)) a.there (order c below))) a
  reaches (one_event_more {events = es} before after e plays step) order =
      onward es before after e (reaches plays) step order
