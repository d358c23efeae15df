-- What steps and events of a process do to the state of its region, and what follows for its turn.
use Rattle.std.proofs.Common.{◌≡◌, ℕ, ◌+◌, ◌<◌, ℤ, true, cond, IsTrue, List, [], ◌∷◌, ◌++◌, length, map, slice_set, Option, Some, None, refl, sym, ap, ◌∙◌, subst, arith, append-nil, append_assoc, length-append, length-set, add-zero}
use Rattle.kpn_region.proofs.Common.{get_or-set_same, set-set, set-get_or, map-set, get_or-map, length-map, sum_by-append, Tables, program_of, Stop, Frame, fits, IsAdvance, advanced_of, Event, Get, Put, Take, is_of_process, process_events, no_frame, PassesRead, PassesWrite, SideState, no_side, next_of, untaken, with_next_taken, with_item_put, as_claimed, Local, Plays, steps_on, one_event_more, side_in, IsGot, IsTaken, IsPutOn, HasPart, with_part, MakesEvents}

-- ---- what was claimed stays

pub claimed_same : (sides : List SideState) (c : ℕ) (side : SideState) → c < length sides
    → as_claimed side ≡ as_claimed (side_in sides c) → map as_claimed (slice_set sides c side) ≡ map as_claimed sides
claimed_same sides c side there same =
    map-set as_claimed sides c side
    ∙ ap (slice_set (map as_claimed sides) c)
    (same ∙ sym (get_or-map as_claimed sides c no_side (as_claimed no_side) there))
    ∙ set-get_or (map as_claimed sides) c (as_claimed no_side)

pub as_many : (sides others : List SideState) → map as_claimed others ≡ map as_claimed sides
    → length others ≡ length sides
as_many sides others same =
    sym (length-map others as_claimed) ∙ ap length same ∙ length-map sides as_claimed

-- ---- nothing, steps, and one turn after another

module _ (t : Tables) (p : ℕ) where
  pub goes_nowhere : (f : Frame) (sides : List SideState) (events : List Event) → IsTrue (fits (program_of t p) f)
      → MakesEvents t p 0 f sides events f sides events
  goes_nowhere f sides events fit =
      record {
        fit = fit;
        claimed = refl;
        more = [];
        events_are = sym (append-nil events);
        count = refl;
        few = omega arith;
        leads = λ first before part plays. subst (Plays t first events) (sym (stays before part)) plays;
      }
    where
      stays : (before : Local) → HasPart p f sides before → with_part p f sides before ≡ before
      stays before part =
          ap (λ (fs : List Frame). record before { frames = fs; sides = sides })
          (ap (slice_set before.frames p) (sym part.frame) ∙ set-get_or before.frames p no_frame)
          ∙ ap (λ (ss : List SideState). record before { sides = ss }) (sym part.sides_are)

  pub goes_by_steps : (f g : Frame) (sides : List SideState) (events : List Event) (steps : ℕ) (stop : Stop)
      → IsAdvance (advanced_of (program_of t p) f g steps stop) → MakesEvents t p 0 f sides events g sides events
  goes_by_steps f g sides events steps stop advance =
      record {
        fit = advance.to_fits;
        claimed = refl;
        more = [];
        events_are = sym (append-nil events);
        count = refl;
        few = omega arith;
        leads = λ first before part plays.
            subst (λ ss. Plays t first events (with_part p g ss before)) part.sides_are
            (steps_on before (with_part p g before.sides before) plays (record {
              process = p;
              within = part.within;
              to = g;
              steps = steps;
              stop = stop;
              advance =
                  subst (λ h. IsAdvance (advanced_of (program_of t p) h g steps stop)) (sym part.frame) advance;
              there = refl;
            }));
      }

  pub goes_then : (n m : ℕ) (f g h : Frame) (sides later last : List SideState) (events more most : List Event)
      → MakesEvents t p n f sides events g later more → MakesEvents t p m g later more h last most
      → MakesEvents t p (n + m) f sides events h last most
  goes_then n m f g h sides later last events more most a b =
      let few = a.few in
      let few_then = b.few in
      let long = length-append a.more b.more in
      record {
        fit = b.fit;
        claimed = b.claimed ∙ a.claimed;
        more = a.more ++ b.more;
        events_are = b.events_are ∙ ap (λ es. es ++ b.more) a.events_are ∙ append_assoc events a.more b.more;
        count =
            sum_by-append (λ e. cond (is_of_process e) 1 0) a.more b.more
            ∙ ap (λ k. k + process_events b.more) a.count ∙ ap (λ k. n + k) b.count;
        few = omega (arith, few, few_then, long);
        leads = λ first before part plays.
            subst (Plays t first most)
            (ap (λ (fs : List Frame). record before { frames = fs; sides = last }) (set-set before.frames p g h))
            (b.leads first (with_part p g later before) (moved before part) (a.leads first before part plays));
      }
    where
      moved : (before : Local) → HasPart p f sides before → HasPart p g later (with_part p g later before)
      moved before part =
          record {
            there = subst (λ k. p < k) (sym (length-set before.frames p g)) part.there;
            within = part.within;
            frame = get_or-set_same before.frames p g no_frame part.there;
            sides_are = refl;
          }

  -- steps after this many events, after which nothing came of the stop
  pub goes_and_stops : (n : ℕ) (f g h after : Frame) (sides later last : List SideState) (events more most : List Event)
      (steps : ℕ) (stop : Stop) → MakesEvents t p n f sides events g later more
      → IsAdvance (advanced_of (program_of t p) g h steps stop) → (after ≡ h) × (last ≡ later) × (most ≡ more)
      → MakesEvents t p n f sides events after last most
  goes_and_stops n f g h after sides later last events more most steps stop a advance same =
      subst (λ x. MakesEvents t p n f sides events x last most) (sym same.0)
      (subst (λ x. MakesEvents t p n f sides events h x most) (sym same.1)
      (subst (MakesEvents t p n f sides events h later) (sym same.2)
      (subst (λ k. MakesEvents t p k f sides events h later more) (add-zero n)
      (goes_then n 0 f g h sides later later events more more a
      (goes_by_steps g h later more steps stop advance)))))

-- ---- one event

module _ (t : Tables) (p c : ℕ) (v : ℤ) (f g : Frame) (sides : List SideState) (events : List Event)
    (there : c < length sides) (fit : IsTrue (fits (program_of t p) g)) where
  pub goes_by_get : (then : List SideState) (more : List Event) → PassesRead t p c v f g
      → IsGot p c v sides events then more → MakesEvents t p 1 f sides events g then more
  goes_by_get then more passes got =
      record {
        fit = fit;
        claimed =
            ap (map as_claimed) got.sides_are
            ∙ claimed_same sides c (with_next_taken (side_in sides c)) there refl;
        more = Get p c v ∷ [];
        events_are = got.events_are;
        count = refl;
        few = omega arith;
        leads = λ first before part plays.
            subst (λ es. Plays t first es (with_part p g then before)) (sym got.events_are)
            (subst (λ ss. Plays t first (events ++ Get p c v ∷ []) (with_part p g ss before)) (sym got.sides_are)
            (subst (λ ss. Plays t first (events ++ Get p c v ∷ [])
            (with_part p g (slice_set ss c (with_next_taken (side_in ss c))) before)) part.sides_are
            (one_event_more before
            (with_part p g (slice_set before.sides c (with_next_taken (side_in before.sides c))) before)
            (Get p c v) plays (record {
              within = part.within;
              channel = subst (λ ss. c < length ss) (sym part.sides_are) there;
              item = subst (λ ss. next_of (side_in ss c) ≡ Some v) (sym part.sides_are) got.item;
              to = g;
              passes = subst (λ h. PassesRead t p c v h g) (sym part.frame) passes;
              there = refl;
            }))));
      }

  abbrev after_put : List SideState
  after_put = slice_set sides c (with_item_put v (side_in sides c))

  put_there : side_in after_put c ≡ with_item_put v (side_in sides c)
  put_there = get_or-set_same sides c (with_item_put v (side_in sides c)) no_side there

  put_plays : PassesWrite t p c v f g → length (untaken (side_in sides c)) < (side_in sides c).room
      → (first before : Local) → HasPart p f sides before → Plays t first events before
      → Plays t first (events ++ Put p c v ∷ []) (with_part p g after_put before)
  put_plays passes room first before part plays =
      subst (λ ss. Plays t first (events ++ Put p c v ∷ [])
      (with_part p g (slice_set ss c (with_item_put v (side_in ss c))) before)) part.sides_are
      (one_event_more before
      (with_part p g (slice_set before.sides c (with_item_put v (side_in before.sides c))) before)
      (Put p c v) plays (record {
        within = part.within;
        channel = subst (λ ss. c < length ss) (sym part.sides_are) there;
        room = subst (λ ss. length (untaken (side_in ss c)) < (side_in ss c).room) (sym part.sides_are) room;
        to = g;
        passes = subst (λ h. PassesWrite t p c v h g) (sym part.frame) passes;
        there = refl;
      }))

  -- the put, and the take after it, if there is one
  put_and_taken : (then : List SideState) (more : List Event) → PassesWrite t p c v f g
      → length (untaken (side_in sides c)) < (side_in sides c).room
      → as_claimed (with_item_put v (side_in sides c)) ≡ as_claimed (side_in sides c) → (taken : Option ℤ)
      → ((w : ℤ) → taken ≡ Some w → (side_in sides c).is_drained ≡ true)
      → IsTaken c taken after_put (events ++ Put p c v ∷ []) then more → MakesEvents t p 1 f sides events g then more
  put_and_taken then more passes room same None drained takes =
      record {
        fit = fit;
        claimed =
            ap (map as_claimed) takes.0
            ∙ claimed_same sides c (with_item_put v (side_in sides c)) there same;
        more = Put p c v ∷ [];
        events_are = takes.1;
        count = refl;
        few = omega arith;
        leads = λ first before part plays.
            subst (λ es. Plays t first es (with_part p g then before)) (sym takes.1)
            (subst (λ ss. Plays t first (events ++ Put p c v ∷ []) (with_part p g ss before)) (sym takes.0)
            (put_plays passes room first before part plays));
      }
  put_and_taken then more passes room same (Some w) drained takes =
      record {
        fit = fit;
        claimed =
            ap (map as_claimed) takes.1
            ∙ claimed_same after_put c (with_next_taken (side_in after_put c)) still refl
            ∙ claimed_same sides c (with_item_put v (side_in sides c)) there same;
        more = Put p c v ∷ Take c w ∷ [];
        events_are = takes.2 ∙ append_assoc events (Put p c v ∷ []) (Take c w ∷ []);
        count = refl;
        few = omega arith;
        leads = λ first before part plays.
            subst (λ es. Plays t first es (with_part p g then before)) (sym takes.2)
            (subst (λ ss. Plays t first ((events ++ Put p c v ∷ []) ++ Take c w ∷ []) (with_part p g ss before))
            (sym takes.1)
            (one_event_more (with_part p g after_put before)
            (with_part p g (slice_set after_put c (with_next_taken (side_in after_put c))) before)
            (Take c w) (put_plays passes room first before part plays) (record {
              channel = still;
              drained = ap (λ s. s.is_drained) put_there ∙ drained w refl;
              item = takes.0;
              there = refl;
            })));
      }
    where
      still : c < length after_put
      still = subst (λ n. c < n) (sym (length-set sides c (with_item_put v (side_in sides c)))) there

  pub goes_by_put : (then : List SideState) (more : List Event) → PassesWrite t p c v f g
      → IsPutOn p c v sides events then more → MakesEvents t p 1 f sides events g then more
  goes_by_put then more passes put =
      put_and_taken then more passes put.room put.claimed put.taken put.drained put.takes
