-- The walk back along a longest chain finds a get or put at each tick, down to the first.
use Rattle.kpn_ticks.proofs.Common.{◌≡◌, ◌≢◌, ◌⊎◌, ℕ, zero, suc, ◌+◌, ◌-◌, ◌<◌, ◌≤◌, max, Bool, true, false, nat_lt, cond, eqb, eq-eqb, ◌&&◌, List, [], ◌∷◌, ◌++◌, length, set, get_or, take, Option, Some, None, refl, sym, ap, ◌∙◌, subst, inl, inr, arith, fold, sum, take_while, prefix_len, cases_lt, cases_Bool, lt-ltb, le-ltb, eqb-true, eqb_tells, append-nil, length-set, length-replicate, End, Process, Source, Sink, Tables, writer_of, reader_of, IsNetwork, Event, Get, Put, Feed, Take, HasNumbers, Legal, IsOwn, no_sink, Legal-nil, Legal-before, Legal-last, by_events, IsOwn-last, Move, Clocks, latest_of, written_of, read_of, item_there, room_there, latest_at, get_tick, put_tick, clocks_with_event, start, clocks_after, tick_in, ticks_of, wait_cause, move_at, move_of, with_move, Course, course_then, course_of, process_or, awaited_process, Walk, walk_past, walk_then, walk_back, last_process, walk_start, shares_of}
use Rattle.std.proofs.lemmas.List.Sums.{sum_by-cons}
use Rattle.std.proofs.lemmas.List.Folds.{sum_by-replicate}
use Rattle.kpn_ticks.specs.declared.moves.WaitCause.{WaitCause}
use Rattle.kpn_ticks.specs.declared.moves.WaitCause.TheVariants.{Own, Item, Room}
use Rattle.kpn_ticks.proofs.Counting.{clocks_are, room_from}
use Rattle.kpn_ticks.proofs.Course.{course_clocks}
use Rattle.kpn_ticks.proofs.Seen.{seen_push, clocks_push, HasPlaces, have_places, wrote, took, written_then, read_then, written_seen, read_seen, last_tick, latest_then, latest_seen}
use Rattle.kpn_ticks.proofs.Rooms.{not_source, not_sink, fed_at_start, in_time}

-- ---- ticks in a list

abbrev IsIn : ℕ → List ℕ → Type 0
IsIn x [] = ⊥
IsIn x (y ∷ ys) = (x ≡ y) ⊎ IsIn x ys

-- the tick before the first, or one of these
abbrev IsNoneOrIn : ℕ → List ℕ → Type 0
IsNoneOrIn x xs = (x ≡ 0) ⊎ IsIn x xs

in_front : (x : ℕ) (xs ys : List ℕ) → IsIn x xs → IsIn x (xs ++ ys)
in_front x [] ys is = absurd is
in_front x (y ∷ xs) ys (inl is) = inl is
in_front x (y ∷ xs) ys (inr is) = inr (in_front x xs ys is)

in_back : (x : ℕ) (xs ys : List ℕ) → IsIn x ys → IsIn x (xs ++ ys)
in_back x [] ys is = is
in_back x (y ∷ xs) ys is = inr (in_back x xs ys is)

in_parts : (x : ℕ) (xs ys : List ℕ) → IsIn x (xs ++ ys) → IsIn x xs ⊎ IsIn x ys
in_parts x [] ys is = inr is
in_parts x (y ∷ xs) ys (inl is) = inl (inl is)
in_parts x (y ∷ xs) ys (inr is) = elim (in_parts x xs ys is) [ inl here ↦ inl (inr here) | inr here ↦ inr here ]

in_one : (b : Bool) (x y : ℕ) → IsIn x (cond b (y ∷ []) []) → (b ≡ true) × (x ≡ y)
in_one true x y (inl is) = (refl, is)
in_one true x y (inr is) = absurd is
in_one false x y is = absurd is

more_behind : (x : ℕ) (xs ys : List ℕ) → IsNoneOrIn x xs → IsNoneOrIn x (xs ++ ys)
more_behind x xs ys (inl is) = inl is
more_behind x xs ys (inr is) = inr (in_front x xs ys is)

more_before : (x : ℕ) (xs ys : List ℕ) → IsNoneOrIn x ys → IsNoneOrIn x (xs ++ ys)
more_before x xs ys (inl is) = inl is
more_before x xs ys (inr is) = inr (in_back x xs ys is)

last_in : (tick : ℕ) (xs : List ℕ) → (last_tick tick xs ≡ tick) ⊎ IsIn (last_tick tick xs) xs
last_in tick [] = inl refl
last_in tick (x ∷ xs) = elim (last_in x xs) [ inl is ↦ inr (inl is) | inr is ↦ inr (inr is) ]

both_lists : (xs new ts more : List ℕ) → ((k : ℕ) → IsNoneOrIn (get_or xs k 0) ts)
    → ((k : ℕ) → IsNoneOrIn (get_or new k 0) more) → (k : ℕ) → IsNoneOrIn (get_or (xs ++ new) k 0) (ts ++ more)
both_lists [] new ts more old next k = more_before (get_or new k 0) ts more (next k)
both_lists (x ∷ xs) new ts more old next zero = more_behind x ts more (old 0)
both_lists (x ∷ xs) new ts more old next (suc k) = both_lists xs new ts more (λ j. old (suc j)) next k

one_if : (b a : Bool) (x : ℕ) → (b ≡ true → a ≡ true) → (k : ℕ)
    → IsNoneOrIn (get_or (cond b (x ∷ []) []) k 0) (cond a (x ∷ []) [])
one_if false a x so k = inl refl
one_if true a x so zero = inr (subst (λ a. IsIn x (cond a (x ∷ []) [])) (sym (so refl)) (inl refl))
one_if true a x so (suc k) = inl refl

zero_if : (b : Bool) (k : ℕ) → get_or {A = ℕ} (cond b (0 ∷ []) []) k 0 ≡ 0
zero_if false k = refl
zero_if true zero = refl
zero_if true (suc k) = refl

none_if : (b : Bool) (x k : ℕ) → (b ≡ true → ⊥) → get_or (cond b (x ∷ []) []) k 0 ≡ 0
none_if false x k never = refl
none_if true x k never = absurd (never refl)

or_other : (xs ts : List ℕ) (k d : ℕ) → ((j : ℕ) → IsNoneOrIn (get_or xs j 0) ts) → IsNoneOrIn d ts
    → IsNoneOrIn (get_or xs k d) ts
or_other [] ts k d all other = other
or_other (x ∷ xs) ts zero d all other = all 0
or_other (x ∷ xs) ts (suc k) d all other = or_other xs ts k d (λ j. all (suc j)) other

-- ---- each tick of a channel is that of its writer or reader

same_process : (end : End) (p q : ℕ) → end ≡ Process p → end ≡ Process q → eqb p q ≡ true
same_process end p q one other = let same : p ≡ q = cc in eq-eqb p q same

module _ (t : Tables) (network : IsNetwork t) where
  abbrev ticks : List Event → ℕ → List ℕ
  ticks H p = ticks_of t true H p

  abbrev clocks : List Event → Clocks
  clocks H = clocks_after t true H

  latest_in : (H : List Event) → Legal t H → (p : ℕ) → IsNoneOrIn (latest_of (clocks H) p) (ticks H p)
  latest_in H legal p =
      subst (λ n. IsNoneOrIn n (ticks H p)) (sym (latest_seen t true p H legal)) (last_in 0 (ticks H p))

  wrote_in : (c q : ℕ) → writer_of t c ≡ Process q → (s : Clocks) (e : Event) → IsOwn t e → (k : ℕ)
      → IsNoneOrIn (get_or (wrote t c s e) k 0) (tick_in t q s e)
  wrote_in c q writes s (Put p d v) own k =
      one_if (eqb d c) (eqb p q) (put_tick t s p d)
      (λ is. same_process (writer_of t c) p q (subst (λ x. writer_of t x ≡ Process p) (eqb-true d c is) own) writes) k
  wrote_in c q writes s (Feed d v) own k = inl (zero_if (eqb d c) k)
  wrote_in c q writes s e own k = inl refl

  took_in : (c q : ℕ) → reader_of t c ≡ Process q → (s : Clocks) (e : Event) → IsOwn t e → (k : ℕ)
      → IsNoneOrIn (get_or (took t c s e) k 0) (tick_in t q s e)
  took_in c q reads s (Get p d v) own k =
      one_if (eqb d c) (eqb p q) (get_tick s p d)
      (λ is. same_process (reader_of t c) p q (subst (λ x. reader_of t x ≡ Process p) (eqb-true d c is) own) reads) k
  took_in c q reads s (Take d v) own k =
      inl (none_if (eqb d c) (item_there s d) k (λ is. no_sink t c d q reads own (eqb-true d c is)))
  took_in c q reads s e own k = inl refl

  written_in_ticks : (c q : ℕ) → writer_of t c ≡ Process q → (H : List Event) → Legal t H → (k : ℕ)
      → IsNoneOrIn (get_or (written_of (clocks H) c) k 0) (ticks H q)
  written_in_ticks c q writes =
      by_events t (λ H. (k : ℕ) → IsNoneOrIn (get_or (written_of (clocks H) c) k 0) (ticks H q))
      (λ k. subst (λ xs. IsNoneOrIn (get_or xs k 0) (ticks [] q)) (sym (written_seen t true c [] (Legal-nil t)))
      (inl refl))
      (λ B e legal so_far k.
      let s = clocks B in
      subst (λ ts. IsNoneOrIn (get_or (written_of (clocks (B ++ e ∷ [])) c) k 0) ts)
      (sym (seen_push (tick_in t q) t true B e))
      (subst (λ xs. IsNoneOrIn (get_or xs k 0) (ticks B q ++ tick_in t q s e))
      (sym (ap (λ s. written_of s c) (clocks_push t true B e)
      ∙ written_then t s e (have_places t true B) (Legal-last t B e legal).numbers c))
      (both_lists (written_of s c) (wrote t c s e) (ticks B q) (tick_in t q s e) so_far
      (wrote_in c q writes s e (IsOwn-last t network B e legal)) k)))

  read_in_ticks : (c q : ℕ) → reader_of t c ≡ Process q → (H : List Event) → Legal t H → (k : ℕ)
      → IsNoneOrIn (get_or (read_of (clocks H) c) k 0) (ticks H q)
  read_in_ticks c q reads =
      by_events t (λ H. (k : ℕ) → IsNoneOrIn (get_or (read_of (clocks H) c) k 0) (ticks H q))
      (λ k. subst (λ xs. IsNoneOrIn (get_or xs k 0) (ticks [] q)) (sym (read_seen t true c [] (Legal-nil t)))
      (inl refl))
      (λ B e legal so_far k.
      let s = clocks B in
      subst (λ ts. IsNoneOrIn (get_or (read_of (clocks (B ++ e ∷ [])) c) k 0) ts)
      (sym (seen_push (tick_in t q) t true B e))
      (subst (λ xs. IsNoneOrIn (get_or xs k 0) (ticks B q ++ tick_in t q s e))
      (sym (ap (λ s. read_of s c) (clocks_push t true B e)
      ∙ read_then t s e (have_places t true B) (Legal-last t B e legal).numbers c))
      (both_lists (read_of s c) (took t c s e) (ticks B q) (tick_in t q s e) so_far
      (took_in c q reads s e (IsOwn-last t network B e legal)) k)))

  -- ---- what a get or put waited for ends at the tick before

  item_by : (B : List Event) → Legal t B → (c p k : ℕ) (end : End) → writer_of t c ≡ end
      → IsNoneOrIn (get_or (written_of (clocks B) c) k 0) (ticks B (process_or end p))
  item_by B legal c p k (Process q) is = written_in_ticks c q is B legal k
  item_by B legal c p k Source is =
      let early = fed_at_start t network true c (not_source (writer_of t c) is) B legal k in inl (omega (arith, early))
  item_by B legal c p k Sink is =
      let early = fed_at_start t network true c (not_sink (writer_of t c) is) B legal k in inl (omega (arith, early))

  room_of : (cap : Option ℕ) (written read ts : List ℕ) (reader : ℕ) → ((k : ℕ) → IsNoneOrIn (get_or read k 0) ts)
      → IsNoneOrIn reader ts → IsNoneOrIn (room_there cap written read reader) ts
  room_of None written read ts reader all gone = inl refl
  room_of (Some cap) written read ts reader all gone =
      elim (cases_Bool (nat_lt (length written) cap)) [
        | inl is ↦
            subst (λ b. IsNoneOrIn (cond b 0 (get_or read (length written - cap) reader)) ts) (sym is) (inl refl)
        | inr is ↦
            subst (λ b. IsNoneOrIn (cond b 0 (get_or read (length written - cap) reader)) ts) (sym is)
            (or_other read ts (length written - cap) reader all gone)
      ]

  -- the reader of the channel has a get or put then, if room comes later than the latest get or put of the writer
  room_by : (B : List Event) → Legal t B → (cap : Option ℕ) (c p : ℕ) → writer_of t c ≡ Process p → (end : End)
      → reader_of t c ≡ end
      → latest_of (clocks B) p < room_there cap (written_of (clocks B) c) (read_of (clocks B) c)
      (latest_at (clocks B) end)
      → IsNoneOrIn (room_there cap (written_of (clocks B) c) (read_of (clocks B) c) (latest_at (clocks B) end))
      (ticks B (process_or end p))
  room_by B legal cap c p writes (Process q) is late =
      room_of cap (written_of (clocks B) c) (read_of (clocks B) c) (ticks B q) (latest_of (clocks B) q)
      (read_in_ticks c q is B legal) (latest_in B legal q)
  room_by B legal cap c p writes Source is late =
      let early = room_from cap (written_of (clocks B) c) (read_of (clocks B) c) 0 (latest_of (clocks B) p)
      (in_time t network true p c writes (not_source (reader_of t c) is) B legal).read (omega arith) in
      absurd (omega (arith, early, late))
  room_by B legal cap c p writes Sink is late =
      let early = room_from cap (written_of (clocks B) c) (read_of (clocks B) c) 0 (latest_of (clocks B) p)
      (in_time t network true p c writes (not_sink (reader_of t c) is) B legal).read (omega arith) in
      absurd (omega (arith, early, late))

  by_cause : (B : List Event) (p latest tick : ℕ) (other : WaitCause)
      → (tick - latest ≡ 1 → IsNoneOrIn (tick - 1) (ticks B p))
      → (tick - latest ≢ 1 → IsNoneOrIn (tick - 1) (ticks B (awaited_process t p other)))
      → IsNoneOrIn (tick - 1) (ticks B (awaited_process t p (wait_cause latest tick other)))
  by_cause B p latest tick other own waits =
      elim (eqb_tells (tick - latest) 1) [
        | inl same ↦
            subst (λ b. IsNoneOrIn (tick - 1) (ticks B (awaited_process t p (cond b Own other)))) (sym same.0) (own same.1)
        | inr differ ↦
            subst (λ b. IsNoneOrIn (tick - 1) (ticks B (awaited_process t p (cond b Own other)))) (sym differ.0)
            (waits differ.1)
      ]

  get_waits : (B : List Event) → Legal t B → (p c : ℕ) → c < length t.channels
      → IsNoneOrIn (get_tick (clocks B) p c - 1)
      (ticks B (awaited_process t p (wait_cause (latest_of (clocks B) p) (get_tick (clocks B) p c) (Item c))))
  get_waits B legal p c there =
      let s = clocks B in
      by_cause B p (latest_of s p) (get_tick s p c) (Item c)
      (λ is. let here : latest_of s p ≡ get_tick s p c - 1 = omega (arith, is) in
      subst (λ n. IsNoneOrIn n (ticks B p)) here (latest_in B legal p))
      (λ differ. let here : item_there s c ≡ get_tick s p c - 1 = omega (arith, differ) in
      subst (λ b. IsNoneOrIn (get_tick s p c - 1) (ticks B (cond b (process_or (writer_of t c) p) p)))
      (sym (lt-ltb c (length t.channels) there))
      (subst (λ n. IsNoneOrIn n (ticks B (process_or (writer_of t c) p))) here
      (item_by B legal c p (length (read_of s c)) (writer_of t c) refl)))

  put_waits : (B : List Event) → Legal t B → (p c : ℕ) → c < length t.channels → writer_of t c ≡ Process p
      → IsNoneOrIn (put_tick t (clocks B) p c - 1)
      (ticks B (awaited_process t p (wait_cause (latest_of (clocks B) p) (put_tick t (clocks B) p c) (Room c))))
  put_waits B legal p c there writes =
      let s = clocks B in
      let cap = get_or s.capacities c None in
      let room = room_there cap (written_of s c) (read_of s c) (latest_at s (reader_of t c)) in
      by_cause B p (latest_of s p) (put_tick t s p c) (Room c)
      (λ is. let here : latest_of s p ≡ put_tick t s p c - 1 = omega (arith, is) in
      subst (λ n. IsNoneOrIn n (ticks B p)) here (latest_in B legal p))
      (λ differ. let here : room ≡ put_tick t s p c - 1 = omega (arith, differ) in
      subst (λ b. IsNoneOrIn (put_tick t s p c - 1) (ticks B (cond b (process_or (reader_of t c) p) p)))
      (sym (lt-ltb c (length t.channels) there))
      (subst (λ n. IsNoneOrIn n (ticks B (process_or (reader_of t c) p))) here
      (room_by B legal cap c p writes (reader_of t c) refl (omega (arith, differ)))))

  -- ---- the walk

  walk_last : (w : Walk) (moves : List Move) (m : Move)
      → walk_back t w (moves ++ m ∷ []) ≡ walk_back t (walk_then t w m) moves
  walk_last w [] m = refl
  walk_last w (x ∷ moves) m = ap (λ (w : Walk). walk_then t w x) (walk_last w moves m)

  one_more : (xs : List ℕ) (p : ℕ) → p < length xs → sum (set xs p (get_or xs p 0 + 1)) ≡ sum xs + 1
  one_more [] p below = absurd (omega (arith, below))
  one_more (x ∷ xs) zero below =
      let new = sum_by-cons (λ n. n) (x + 1) xs in
      let old = sum_by-cons (λ n. n) x xs in
      omega (arith, new, old)
  one_more (x ∷ xs) (suc p) below =
      let more = one_more xs p (omega (arith, below)) in
      let new = sum_by-cons (λ n. n) x (set xs p (get_or xs p 0 + 1)) in
      let old = sum_by-cons (λ n. n) x xs in
      omega (arith, new, old, more)

  -- each process has a share, and the next get or put is among these events, unless none is left
  record IsOnWay (H : List Event) (w : Walk) : Type 0 where
    shares : length w.shares ≡ length t.instances
    here : IsNoneOrIn w.tick (ticks H w.process)

  -- this many gets and puts are left, one for each tick
  abbrev CountsTo : List Move → Walk → Type 0
  CountsTo moves w = sum (walk_back t w moves).shares ≡ sum w.shares + w.tick

  abbrev AllCount : List Event → Type 0
  AllCount H = (w : Walk) → IsOnWay H w → CountsTo (course_of t H).moves w

  by_tests : (P : Walk → Type 0) (a b : Bool) (past w : Walk) → (a ≡ true → b ≡ true → P past) → (a ≡ false → P w)
      → (b ≡ false → P w) → P (cond (a && b) past w)
  by_tests P true true past w both first second = both refl refl
  by_tests P true false past w both first second = second refl
  by_tests P false b past w both first second = first refl

  -- one get or put of a process after these events
  one_move : (B : List Event) → AllCount B → (p latest tick : ℕ) (other : WaitCause) → p < length t.instances → 0 < tick
      → IsNoneOrIn (tick - 1) (ticks B (awaited_process t p (wait_cause latest tick other))) → (w : Walk)
      → length w.shares ≡ length t.instances
      → IsNoneOrIn w.tick (ticks B w.process ++ cond (eqb p w.process) (tick ∷ []) [])
      → CountsTo ((course_of t B).moves ++ move_at p latest tick other ∷ []) w
  one_move B count p latest tick other below some waits w long here =
      let m = move_at p latest tick other in
      let moves = (course_of t B).moves in
      let goal : Walk → Type 0 = λ x. sum (walk_back t x moves).shares ≡ sum w.shares + w.tick in
      subst (λ (x : Walk). sum x.shares ≡ sum w.shares + w.tick) (sym (walk_last w moves m))
      (by_tests goal (eqb p w.process) (eqb tick w.tick) (walk_past t w m) w
      (λ same at.
      let now = eqb-true tick w.tick at in
      let left = count (walk_past t w m) (record {
        shares = length-set w.shares p (get_or w.shares p 0 + 1) ∙ long;
        here = subst (λ n. IsNoneOrIn (n - 1) (ticks B (awaited_process t p (wait_cause latest tick other)))) now waits;
      }) in
      let added = one_more w.shares p (subst (λ n. p < n) (sym long) below) in
      omega (arith, left, added, now, some))
      (λ differ. earlier here (λ is. let clash : true ≡ false = sym (is.0) ∙ differ in absurd cc))
      (λ differ. earlier here
      (λ is. let clash : true ≡ false = sym (eq-eqb tick w.tick (sym is.1)) ∙ differ in absurd cc)))
    where
      -- it is none of those that are left
      earlier : IsNoneOrIn w.tick (ticks B w.process ++ cond (eqb p w.process) (tick ∷ []) [])
          → ((eqb p w.process ≡ true) × (w.tick ≡ tick) → ⊥) → CountsTo (course_of t B).moves w
      earlier (inl none) never = count w (record { shares = long; here = inl none })
      earlier (inr is) never = elim (in_parts w.tick (ticks B w.process) (cond (eqb p w.process) (tick ∷ []) []) is) [
        | inl before ↦ count w (record { shares = long; here = inr before })
        | inr last ↦ absurd (never (in_one (eqb p w.process) w.tick tick last))
      ]

  course_last : (B : List Event) (e : Event) → course_of t (B ++ e ∷ []) ≡ course_then t (course_of t B) e
  course_last B e = along (record { clocks = start t true; moves = [] }) B
    where
      along : (x : Course) (B : List Event)
          → fold (course_then t) x (B ++ e ∷ []) ≡ course_then t (fold (course_then t) x B) e
      along x [] = refl
      along x (f ∷ B) = along (course_then t x f) B

  moves_last : (B : List Event) (e : Event)
      → (course_of t (B ++ e ∷ [])).moves ≡ with_move (course_of t B).moves (move_of t (clocks B) e)
  moves_last B e =
      ap (λ (x : Course). x.moves) (course_last B e)
      ∙ ap (λ (s : Clocks). with_move (course_of t B).moves (move_of t s e)) (course_clocks t B)

  one_event : (B : List Event) → Legal t B → AllCount B → (e : Event) → HasNumbers t e → IsOwn t e → (w : Walk)
      → length w.shares ≡ length t.instances → IsNoneOrIn w.tick (ticks B w.process ++ tick_in t w.process (clocks B) e)
      → CountsTo (with_move (course_of t B).moves (move_of t (clocks B) e)) w
  one_event B legal count (Get p c v) numbers own w long here =
      one_move B count p (latest_of (clocks B) p) (get_tick (clocks B) p c) (Item c) numbers.0 (omega arith)
      (get_waits B legal p c numbers.1) w long here
  one_event B legal count (Put p c v) numbers own w long here =
      one_move B count p (latest_of (clocks B) p) (put_tick t (clocks B) p c) (Room c) numbers.0 (omega arith)
      (put_waits B legal p c numbers.1 own) w long here
  one_event B legal count e numbers own w long here =
      count w (record { shares = long; here = subst (IsNoneOrIn w.tick) (append-nil (ticks B w.process)) here })

  none_left : AllCount []
  none_left w way = elim way.here [ inl none ↦ omega (arith, none) | inr is ↦ absurd is ]

  all_count : (H : List Event) → Legal t H → AllCount H
  all_count =
      by_events t AllCount none_left
      (λ B e legal count w way.
      let here = subst (IsNoneOrIn w.tick) (seen_push (tick_in t w.process) t true B e) way.here in
      let own = IsOwn-last t network B e legal in
      subst (λ moves. CountsTo moves w) (sym (moves_last B e))
      (one_event B (Legal-before t B e legal) count e (Legal-last t B e legal).numbers own w way.shares here))

  -- ---- its end

  abbrev HasLast : Clocks → Type 0
  HasLast s = (s.last ≡ 0) ⊎ ((p : ℕ) × (latest_of s p ≡ s.last))

  moved : (s now : Clocks) (p tick : ℕ)
      → ((q : ℕ) → latest_of now q ≡ last_tick (latest_of s q) (cond (eqb p q) (tick ∷ []) []))
      → now.last ≡ max s.last tick → latest_of s p < tick → HasLast s → HasLast now
  moved s now p tick latest last later so_far =
      elim (cases_lt tick s.last) [
        | inl early ↦ elim so_far [
          | inl none ↦ absurd (omega (arith, none, early))
          | inr found ↦ inr (found.0, stays found.0 found.1 early)
        ]
        | inr late ↦ inr (p, own (omega (arith, late, last)))
      ]
    where
      own : tick ≡ now.last → latest_of now p ≡ now.last
      own is =
          latest p ∙ ap (λ b. last_tick (latest_of s p) (cond b (tick ∷ []) [])) (eq-eqb p p refl) ∙ is

      stays : (q : ℕ) → latest_of s q ≡ s.last → tick < s.last → latest_of now q ≡ now.last
      stays q is early =
          elim (eqb_tells p q) [
            | inl same ↦
                let here : latest_of s p ≡ s.last = subst (λ x. latest_of s x ≡ s.last) (sym same.1) is in
                absurd (omega (arith, here, early, later))
            | inr differ ↦
                let kept : s.last ≡ now.last = omega (arith, last, early) in
                latest q ∙ ap (λ b. last_tick (latest_of s q) (cond b (tick ∷ []) [])) differ.0 ∙ is ∙ kept
          ]

  last_then : (s : Clocks) (e : Event) → HasPlaces t s → HasNumbers t e → HasLast s → HasLast (clocks_with_event t s e)
  last_then s (Get p c v) has numbers so_far =
      moved s (clocks_with_event t s (Get p c v)) p (get_tick s p c) (latest_then t s (Get p c v) has numbers) refl (omega arith)
      so_far
  last_then s (Put p c v) has numbers so_far =
      moved s (clocks_with_event t s (Put p c v)) p (put_tick t s p c) (latest_then t s (Put p c v) has numbers) refl (omega arith)
      so_far
  last_then s e has numbers so_far = so_far

  last_somewhere : (H : List Event) → Legal t H → HasLast (clocks H)
  last_somewhere =
      by_events t (λ H. HasLast (clocks H)) (inl refl)
      (λ B e legal so_far.
      subst HasLast (sym (clocks_push t true B e))
      (last_then (clocks B) e (have_places t true B) (Legal-last t B e legal).numbers so_far))

  first_at : (x : ℕ) (xs : List ℕ) (m : ℕ) → x ≤ m
      → (x < m → get_or xs (prefix_len (λ x. nat_lt x m) xs) 0 ≡ m)
      → get_or (x ∷ xs) (prefix_len (λ x. nat_lt x m) (x ∷ xs)) 0 ≡ m
  first_at x xs m most rest =
      let n = prefix_len (λ x. nat_lt x m) xs in
      let one : 1 + n ≡ suc n = omega arith in
      elim (cases_lt x m) [
        | inl less ↦
            subst (λ b. get_or (x ∷ xs) (cond b (1 + n) 0) 0 ≡ m) (sym (lt-ltb x m less))
            (subst (λ k. get_or (x ∷ xs) k 0 ≡ m) (sym one) (rest less))
        | inr out ↦
            let is : x ≡ m = omega (arith, out, most) in
            subst (λ b. get_or (x ∷ xs) (cond b (1 + n) 0) 0 ≡ m) (sym (le-ltb x m out)) is
      ]

  at_prefix : (xs : List ℕ) (m p : ℕ) → get_or xs p 0 ≡ m → 0 < m → ((k : ℕ) → get_or xs k 0 ≤ m)
      → get_or xs (prefix_len (λ x. nat_lt x m) xs) 0 ≡ m
  at_prefix [] m p is some all = absurd (omega (arith, is, some))
  at_prefix (x ∷ xs) m zero is some all = first_at x xs m (all 0) (λ less. absurd (omega (arith, is, less)))
  at_prefix (x ∷ xs) m (suc p) is some all =
      first_at x xs m (all 0) (λ less. at_prefix xs m p is some (λ k. all (suc k)))

  one_longer : (x : ℕ) (xs : List ℕ) (b : Bool) (n : ℕ) → length (take n xs) ≡ n
      → length (take (cond b (1 + n) 0) (x ∷ xs)) ≡ cond b (1 + n) 0
  one_longer x xs true n so_far =
      let one : 1 + n ≡ suc n = omega arith in subst (λ k. length (take k (x ∷ xs)) ≡ k) (sym one) (ap suc so_far)
  one_longer x xs false n so_far = refl

  prefix_length : (goes : ℕ → Bool) (xs : List ℕ) → length (take_while goes xs) ≡ prefix_len goes xs
  prefix_length goes [] = refl
  prefix_length goes (x ∷ xs) = one_longer x xs (goes x) (prefix_len goes xs) (prefix_length goes xs)

  starts_last : (H : List Event) → Legal t H → IsNoneOrIn (clocks H).last (ticks H (last_process (clocks H)))
  starts_last H legal =
      let s = clocks H in
      elim (last_somewhere H legal) [
        | inl none ↦ inl none
        | inr found ↦ elim (cases_lt 0 s.last) [
          | inl some ↦
              subst (λ n. IsNoneOrIn n (ticks H (last_process s)))
              (ap (λ p. latest_of s p) (prefix_length (λ x. nat_lt x s.last) s.latest)
              ∙ at_prefix s.latest s.last found.0 found.1 some (clocks_are t true H).latest)
              (latest_in H legal (last_process s))
          | inr out ↦ inl (omega (arith, out))
        ]
      ]

  pub shares_sum : (H : List Event) → Legal t H → sum (shares_of t H) ≡ (clocks_after t true H).last
  shares_sum H legal =
      let s = clocks H in
      let walked =
      all_count H legal (walk_start t s)
      (record { shares = length-replicate (length t.instances) 0; here = starts_last H legal }) in
      let none = sum_by-replicate (λ n. n) (length t.instances) 0 in
      subst (λ (s : Clocks). sum (walk_back t (walk_start t s) (course_of t H).moves).shares ≡ (clocks H).last)
      (sym (course_clocks t H)) (omega (arith, walked, none))
