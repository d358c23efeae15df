-- A batch after a claim, after it was cleared, and after a turn.
use Rattle.std.proofs.Common.{◌≡◌, ℕ, zero, suc, ◌+◌, ◌<◌, Bool, true, false, cond, IsTrue, IfSome, List, [], ◌∷◌, length, map, get_or, slice_set, replicate, Option, Some, None, ℤ, refl, sym, ap, ◌∙◌, subst, inl, inr, arith, length-set}
use Rattle.kpn_region.proofs.Common.{cases_eq, false≢true, get_or-set_same, get_or-set_other, map-set, length-map, take_all, length-replicate, sum_by-append, Tables, program_of, Stop, Frame, fits, Event, is_of_process, process_events, no_frame, SideState, no_side, claimed_with, as_claimed, Local, frame_at, with_side, IsLocal, Plays, no_event, Batch, batch_of, IsStuckAt, IsBatch, IsFresh, IsEmpty, MakesEvents}
use Rattle.kpn_region.proofs.Turns.{as_many}

-- ---- lists of one value

pub get_or_same : {X : Type 0} (n i : ℕ) (x : X) → get_or (replicate n x) i x ≡ x
get_or_same zero i x = refl
get_or_same (suc n) zero x = refl
get_or_same (suc n) (suc i) x = get_or_same n i x

set_to_default : {X : Type 0} (xs : List X) (i : ℕ) (x : X) → get_or (slice_set xs i x) i x ≡ x
set_to_default [] i x = refl
set_to_default (y ∷ ys) zero x = refl
set_to_default (y ∷ ys) (suc i) x = set_to_default ys i x

no_sides_claimed : (m : ℕ) → map as_claimed (replicate m no_side) ≡ replicate m no_side
no_sides_claimed zero = refl
no_sides_claimed (suc m) = ap (λ ss. no_side ∷ ss) (no_sides_claimed m)

clash : (stop : Stop) (o : Option Stop) → o ≡ None → o ≡ Some stop → ⊥
clash stop o none some = let e : None ≡ Some stop = sym none ∙ some in absurd cc

-- frames with one more
set_fits : (t : Tables) (frames : List Frame) (p : ℕ) (g : Frame) → IsTrue (fits (program_of t p) g)
    → length frames ≡ length t.instances
    → ((q : ℕ) → q < length t.instances → IsTrue (fits (program_of t q) (get_or frames q no_frame)))
    → (q : ℕ) → q < length t.instances → IsTrue (fits (program_of t q) (get_or (slice_set frames p g) q no_frame))
set_fits t frames p g fit long each q below =
    elim (cases_eq q p) [
      | inl same ↦
          subst (λ x. IsTrue (fits (program_of t x) (get_or (slice_set frames p g) x no_frame))) (sym same)
          (subst (λ f. IsTrue (fits (program_of t p) f))
          (sym (get_or-set_same frames p g no_frame (omega (arith, below, long, same)))) fit)
      | inr differ ↦
          subst (λ f. IsTrue (fits (program_of t q) f)) (sym (get_or-set_other frames p q g no_frame differ))
          (each q below)
    ]

abbrev pub local_of : List Bool → List Frame → List SideState → Local
local_of within frames sides = record { within = within; frames = frames; sides = sides }

-- ---- a region without processes

module _ (t : Tables) (first : List Frame) (long : length first ≡ length t.instances)
    (fit : (p : ℕ) → p < length t.instances → IsTrue (fits (program_of t p) (get_or first p no_frame)))
    (n m : ℕ) (processes : n ≡ length t.instances) (channels : m ≡ length t.channels) where
  abbrev empty : Batch
  empty = batch_of t (replicate n false) first first (replicate m no_side) [] (replicate n None)

  pub empty_is_fresh : IsFresh empty
  empty_is_fresh =
      record {
        same =
            ap (λ (ss : List SideState). record { within = replicate n false; frames = first; sides = ss })
            (sym (no_sides_claimed m));
        no_events = refl;
        no_stops = λ p. get_or_same n p None;
      }

  pub empty_is_empty : IsEmpty empty.first
  empty_is_empty =
      record {
        processes = λ p. get_or_same n p false;
        channels = λ c. ap (λ ss. get_or ss c no_side) (no_sides_claimed m) ∙ get_or_same m c no_side;
      }

  now_local : IsLocal t empty.now
  now_local =
      record {
        within = length-replicate n false ∙ processes;
        frames = long;
        sides = length-replicate m no_side ∙ channels;
        fit = fit;
      }

  pub empty_is_batch : IsBatch empty
  empty_is_batch =
      record {
        was = subst (IsLocal t) empty_is_fresh.same now_local;
        is = now_local;
        within = refl;
        claimed = refl;
        processes = length-replicate n None ∙ processes;
        plays = subst (Plays t empty.first []) (sym empty_is_fresh.same) no_event;
        outside = λ p out. refl;
        stuck = λ p stop below is. absurd (clash stop (get_or (replicate n None) p None) (get_or_same n p None) is);
      }

-- what holds of a new batch, and of one that was cleared
pub record IsNew (b : Batch) : Type 0 where
  pub batch : IsBatch b
  pub fresh : IsFresh b
  pub empty : IsEmpty b.first

pub is_new : (t : Tables) (within : List Bool) (first frames : List Frame) (sides : List SideState)
    (events : List Event) (stops : List (Option Stop)) → within ≡ replicate (length t.instances) false
    → frames ≡ first → sides ≡ replicate (length t.channels) no_side → events ≡ []
    → stops ≡ replicate (length t.instances) None → length first ≡ length t.instances
    → ((p : ℕ) → p < length t.instances → IsTrue (fits (program_of t p) (get_or first p no_frame)))
    → IsNew (batch_of t within first frames sides events stops)
is_new t within first frames sides events stops is_within is_frames is_sides is_events is_stops long fit =
    let n = length t.instances in
    let m = length t.channels in
    subst (λ x. IsNew (batch_of t x first frames sides events stops)) (sym is_within)
    (subst (λ x. IsNew (batch_of t (replicate n false) first x sides events stops)) (sym is_frames)
    (subst (λ x. IsNew (batch_of t (replicate n false) first first x events stops)) (sym is_sides)
    (subst (λ x. IsNew (batch_of t (replicate n false) first first (replicate m no_side) x stops)) (sym is_events)
    (subst (λ x. IsNew (batch_of t (replicate n false) first first (replicate m no_side) [] x)) (sym is_stops)
    (record {
      batch = empty_is_batch t first long fit n m refl refl;
      fresh = empty_is_fresh t first long fit n m refl refl;
      empty = empty_is_empty t first long fit n m refl refl;
    })))))

-- ---- a claim

pub claims_whole : (b : Bool) (items : List ℤ) (room : ℕ) (drains : Bool)
    → as_claimed (cond b (claimed_with items room drains) no_side) ≡ cond b (claimed_with items room drains) no_side
claims_whole true items room drains =
    ap (λ (xs : List ℤ). record (claimed_with items room drains) { items = xs })
    (take_all (length items) items (omega arith))
claims_whole false items room drains = refl

module _ (t : Tables) (within : List Bool) (first frames : List Frame) (sides : List SideState) (events : List Event)
    (stops : List (Option Stop)) (b : IsBatch (batch_of t within first frames sides events stops))
    (fresh : IsFresh (batch_of t within first frames sides events stops)) where
  same_frames : frames ≡ first
  same_frames = ap (λ (s : Local). s.frames) fresh.same

  same_sides : sides ≡ map as_claimed sides
  same_sides = ap (λ (s : Local). s.sides) fresh.same

  abbrev now_with : (p : ℕ) → Frame → Local
  now_with p y = record { within = slice_set within p true; frames = slice_set frames p y; sides = sides }

  abbrev then_with : (p : ℕ) → Frame → Local
  then_with p x =
      record { within = slice_set within p true; frames = slice_set first p x; sides = map as_claimed sides }

  pub process_claimed : (p : ℕ) (f x y : Frame) → IsTrue (fits (program_of t p) f) → x ≡ f → y ≡ f
      → IsBatch (batch_of t (slice_set within p true) (slice_set first p x) (slice_set frames p y) sides events
      (slice_set stops p None))
  process_claimed p f x y fit is_x is_y =
      record {
        was = record {
          within = length-set within p true ∙ b.was.within;
          frames = length-set first p x ∙ b.was.frames;
          sides = b.was.sides;
          fit = set_fits t first p x (subst (λ g. IsTrue (fits (program_of t p) g)) (sym is_x) fit) b.was.frames
              b.was.fit;
        };
        is = record {
          within = length-set within p true ∙ b.is.within;
          frames = length-set frames p y ∙ b.is.frames;
          sides = b.is.sides;
          fit = set_fits t frames p y (subst (λ g. IsTrue (fits (program_of t p) g)) (sym is_y) fit) b.is.frames
              b.is.fit;
        };
        within = refl;
        claimed = refl;
        processes = length-set stops p None ∙ b.processes;
        plays =
            subst (λ es. Plays t (then_with p x) es (now_with p y)) (sym fresh.no_events)
            (subst (Plays t (then_with p x) []) (sym same) no_event);
        outside = λ q out. ap (λ s. frame_at s q) same;
        stuck = λ q stop below is. absurd (clash stop (get_or (slice_set stops p None) q None) (none q) is);
      }
    where
      same : now_with p y ≡ then_with p x
      same =
          ap (λ (fs : List Frame). record { within = slice_set within p true; frames = fs; sides = sides })
          (ap (λ fs. slice_set fs p y) same_frames ∙ ap (slice_set first p) (is_y ∙ sym is_x))
          ∙ ap (λ (ss : List SideState).
          record { within = slice_set within p true; frames = slice_set first p x; sides = ss }) same_sides

      none : (q : ℕ) → get_or (slice_set stops p None) q None ≡ None
      none q =
          elim (cases_eq q p) [
            | inl at ↦ subst (λ k. get_or (slice_set stops p None) k None ≡ None) (sym at) (set_to_default stops p None)
            | inr differ ↦ get_or-set_other stops p q None None differ ∙ fresh.no_stops q
          ]

  module _ (c : ℕ) (side : SideState) (whole : as_claimed side ≡ side) where
    channels_same : map as_claimed (slice_set sides c side) ≡ slice_set sides c side
    channels_same =
        map-set as_claimed sides c side ∙ ap (slice_set (map as_claimed sides) c) whole
        ∙ ap (λ ss. slice_set ss c side) (sym same_sides)

    all_same : local_of within frames (slice_set sides c side)
        ≡ local_of within first (map as_claimed (slice_set sides c side))
    all_same =
        ap (λ fs. local_of within fs (slice_set sides c side)) same_frames ∙ ap (local_of within first) (sym channels_same)

    pub channel_is_claimed : local_of within first (map as_claimed (slice_set sides c side))
        ≡ with_side c side (local_of within first (map as_claimed sides))
    channel_is_claimed =
        ap (local_of within first)
        (map-set as_claimed sides c side ∙ ap (slice_set (map as_claimed sides) c) whole)

    pub channel_fresh : IsFresh (batch_of t within first frames (slice_set sides c side) events stops)
    channel_fresh = record { same = all_same; no_events = fresh.no_events; no_stops = fresh.no_stops }

    pub channel_claimed : IsBatch (batch_of t within first frames (slice_set sides c side) events stops)
    channel_claimed =
        record {
          was = record {
            within = b.was.within;
            frames = b.was.frames;
            sides = length-map (slice_set sides c side) as_claimed ∙ length-set sides c side ∙ b.is.sides;
            fit = b.was.fit;
          };
          is = record {
            within = b.is.within;
            frames = b.is.frames;
            sides = length-set sides c side ∙ b.is.sides;
            fit = b.is.fit;
          };
          within = refl;
          claimed = refl;
          processes = b.processes;
          plays =
              subst (λ es. Plays t (local_of within first (map as_claimed (slice_set sides c side))) es
              (local_of within frames (slice_set sides c side))) (sym fresh.no_events)
              (subst (Plays t (local_of within first (map as_claimed (slice_set sides c side))) []) (sym all_same)
              no_event);
          outside = b.outside;
          stuck = b.stuck;
        }

-- ---- a turn

module _ (t : Tables) (within : List Bool) (first frames : List Frame) (sides : List SideState) (events : List Event)
    (stops : List (Option Stop)) (b : IsBatch (batch_of t within first frames sides events stops)) where
  pub turned : (p n : ℕ) → p < length t.instances → get_or within p false ≡ true → (f g : Frame)
      → (had then : List SideState) (made more : List Event) → f ≡ get_or frames p no_frame → had ≡ sides
      → made ≡ events → MakesEvents t p n f had made g then more → (stop : Option Stop) → IfSome stop (IsStuckAt t p g)
      → IsBatch (batch_of t within first (slice_set frames p g) then more (slice_set stops p stop))
  turned p n there in_it f g had then made more stood same_sides same_events goes stop stands =
      record {
        was = subst (λ ss. IsLocal t (record { within = within; frames = first; sides = ss })) (sym claimed) b.was;
        is = record {
          within = b.is.within;
          frames = length-set frames p g ∙ b.is.frames;
          sides = as_many had then goes.claimed ∙ ap length same_sides ∙ b.is.sides;
          fit = set_fits t frames p g goes.fit b.is.frames b.is.fit;
        };
        within = refl;
        claimed = refl;
        processes = length-set stops p stop ∙ b.processes;
        plays =
            subst (λ ss. Plays t (record { within = within; frames = first; sides = ss }) more
            (record { within = within; frames = slice_set frames p g; sides = then })) (sym claimed)
            (goes.leads (record { within = within; frames = first; sides = map as_claimed sides })
            (record { within = within; frames = frames; sides = sides })
            (record {
              there = subst (λ k. p < k) (sym b.is.frames) there;
              within = in_it;
              frame = sym stood;
              sides_are = sym same_sides;
            })
            (subst (λ es. Plays t (record { within = within; frames = first; sides = map as_claimed sides }) es
            (record { within = within; frames = frames; sides = sides })) (sym same_events) b.plays));
        outside = λ q out.
            get_or-set_other frames p q g no_frame
            (λ (same : q ≡ p). false≢true (sym (subst (λ k. get_or within k false ≡ false) same out) ∙ in_it))
            ∙ b.outside q out;
        stuck = λ q s below is.
            elim (cases_eq q p) [
              | inl same ↦
                  subst (λ k. IsStuckAt t k (get_or (slice_set frames p g) k no_frame) s) (sym same)
                  (subst (λ h. IsStuckAt t p h s)
                  (sym (get_or-set_same frames p g no_frame (subst (λ k. p < k) (sym b.is.frames) there)))
                  (here s (sym (get_or-set_same stops p stop None (subst (λ k. p < k) (sym b.processes) there))
                  ∙ subst (λ k. get_or (slice_set stops p stop) k None ≡ Some s) same is)))
              | inr differ ↦
                  subst (λ h. IsStuckAt t q h s) (sym (get_or-set_other frames p q g no_frame differ))
                  (b.stuck q s below (sym (get_or-set_other stops p q stop None differ) ∙ is))
            ];
      }
    where
      claimed : map as_claimed then ≡ map as_claimed sides
      claimed = goes.claimed ∙ ap (map as_claimed) same_sides

      here : (s : Stop) → stop ≡ Some s → IsStuckAt t p g s
      here s is = subst (λ o. IfSome o (IsStuckAt t p g)) is stands

-- as many more of its events are of processes as it has made
pub counted : (t : Tables) (p n k : ℕ) (f g : Frame) (had then : List SideState) (events made more : List Event)
    → k ≡ process_events events → made ≡ events → MakesEvents t p n f had made g then more
    → k + n ≡ process_events more
counted t p n k f g had then events made more count same goes =
    ap (λ j. k + j) (sym goes.count)
    ∙ ap (λ j. j + process_events goes.more) (count ∙ ap process_events (sym same))
    ∙ sym (sum_by-append (λ e. cond (is_of_process e) 1 0) made goes.more)
    ∙ ap process_events (sym goes.events_are)
