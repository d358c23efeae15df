-- Two events of which each could come first have the same ticks in both orders.
use Rattle.kpn_ticks.proofs.Common.{◌≡◌, ◌≢◌, ℕ, ◌+◌, ◌-◌, ◌<◌, max, Bool, true, false, nat_lt, cond, List, [], ◌∷◌, ◌++◌, length, set, get_or, Option, Some, None, refl, sym, ap, ◌∙◌, subst, inl, inr, arith, fold, ltb-false, eqb_tells, get_or-set_other, set_comm, get_or_append_left, get_or_default, Tables, reader_of, Event, Get, Put, WaitEmpty, WaitFull, Ended, Feed, Close, Take, Leave, Grow, process_of, Clocks, latest_of, latest_at, written_of, read_of, item_there, room_there, get_tick, put_tick, with_tick, clocks_with_get, clocks_with_put, clocks_with_event, start, clocks_after}
use Rattle.kpn_ticks.specs.Reordered.{HasItem, HasRoom, CanBegin, adds_to, takes_from, Differ, AreIndependent, CanChange, IsIdle, AreReordered, same, changed, with_idle, without_idle}
use Rattle.kpn_ticks.proofs.Counting.{set_cases}

-- ---- lists of ticks

-- another list is as it was
list_other : (lists : List (List ℕ)) (c d tick : ℕ) → c ≢ d → get_or (with_tick lists c tick) d [] ≡ get_or lists d []
list_other lists c d tick differ =
    get_or-set_other lists c d (get_or lists c [] ++ tick ∷ []) [] (λ is. differ (sym is))

-- an element of any list is as it was
element_stays : (lists : List (List ℕ)) (c d tick k x : ℕ) → k < length (get_or lists d [])
    → get_or (get_or (with_tick lists c tick) d []) k x ≡ get_or (get_or lists d []) k x
element_stays lists c d tick k x below =
    elim (eqb_tells d c) [
      | inl equal ↦
          let on = equal.1 in
          subst (λ e. get_or (get_or (with_tick lists c tick) e []) k x ≡ get_or (get_or lists e []) k x) (sym on)
          (set_cases (λ xs. get_or xs k x ≡ get_or (get_or lists c []) k x) lists c (get_or lists c [] ++ tick ∷ []) []
          c
          (get_or_append_left (get_or lists c []) (tick ∷ []) x k
          (subst (λ e. k < length (get_or lists e [])) on below))
          refl)
      | inr differs ↦ ap (λ xs. get_or xs k x) (list_other lists c d tick (λ is. differs.1 (sym is)))
    ]

lists_change : (lists : List (List ℕ)) (c d m n : ℕ) → c ≢ d
    → with_tick (with_tick lists c m) d n ≡ with_tick (with_tick lists d n) c m
lists_change lists c d m n differ =
    ap (λ xs. set (with_tick lists c m) d (xs ++ n ∷ [])) (list_other lists c d m differ)
    ∙ set_comm lists c d (get_or lists c [] ++ m ∷ []) (get_or lists d [] ++ n ∷ []) differ
    ∙ ap (λ xs. set (with_tick lists d n) c (xs ++ m ∷ [])) (sym (list_other lists d c n (λ is. differ (sym is))))

-- ---- what an event does

abbrev effect : Event → (tick : ℕ) → Clocks → Clocks
effect (Get p c v) n s = clocks_with_get s p c n
effect (Put p c v) n s = clocks_with_put s p c n
effect (Feed c v) n s = record s { written = with_tick s.written c 0 }
effect (Take c v) n s = record s { read = with_tick s.read c n }
effect event n s = s

abbrev tick_at : Tables → Clocks → Event → ℕ
tick_at t s (Get p c v) = get_tick s p c
tick_at t s (Put p c v) = put_tick t s p c
tick_at t s (Take c v) = item_there s c
tick_at t s event = 0

has_effect : (t : Tables) (s now : Clocks) (event : Event) → CanBegin now event
    → clocks_with_event t s event ≡ effect event (tick_at t s event) s
has_effect t s now (Get p c v) can = refl
has_effect t s now (Put p c v) can = refl
has_effect t s now (Feed c v) can = refl
has_effect t s now (Take c v) can = refl
has_effect t s now event can = absurd can

-- ---- the tick of an event after another one

latest_stays : (event : Event) (n : ℕ) (s : Clocks) (q : ℕ) → Differ (process_of event) (Some q)
    → latest_of (effect event n s) q ≡ latest_of s q
latest_stays (Get p c v) n s q differ = get_or-set_other s.latest p q n 0 (λ is. differ (sym is))
latest_stays (Put p c v) n s q differ = get_or-set_other s.latest p q n 0 (λ is. differ (sym is))
latest_stays (Feed c v) n s q differ = refl
latest_stays (Take c v) n s q differ = refl
latest_stays event n s q differ = refl

item_stays : (event : Event) (n : ℕ) (s : Clocks) (d : ℕ) → Differ (takes_from event) (Some d) → HasItem s d
    → item_there (effect event n s) d ≡ item_there s d
item_stays (Get p c v) n s d differ has =
    ap (λ xs. get_or (written_of s d) (length xs) 0) (list_other s.read c d n differ)
item_stays (Put p c v) n s d differ has = element_stays s.written c d n (length (read_of s d)) 0 has
item_stays (Feed c v) n s d differ has = element_stays s.written c d 0 (length (read_of s d)) 0 has
item_stays (Take c v) n s d differ has =
    ap (λ xs. get_or (written_of s d) (length xs) 0) (list_other s.read c d n differ)
item_stays event n s d differ has = refl

pub either : (b : Bool) (x y : ℕ) → (b ≡ false → x ≡ y) → cond b 0 x ≡ cond b 0 y
either true x y agree = refl
either false x y agree = agree refl

room_from_reads : (cap : Option ℕ) (written read now : List ℕ) (x y : ℕ)
    → ((n : ℕ) → cap ≡ Some n → length written < n + length read)
    → ((k z : ℕ) → k < length read → get_or now k z ≡ get_or read k z)
    → room_there cap written now y ≡ room_there cap written read x
room_from_reads None written read now x y room stays = refl
room_from_reads (Some cap) written read now x y room stays =
    let k = length written - cap in
    either (nat_lt (length written) cap) (get_or now k y) (get_or read k x)
    (λ full.
    let above = ltb-false (length written) cap full in
    let fewer = room cap refl in
    let below : k < length read = omega (arith, above, fewer) in
    stays k y below ∙ get_or_default read k y x below)

abbrev room_at : Tables → Clocks → (d : ℕ) → ℕ
room_at t s d =
    room_there (get_or s.capacities d None) (written_of s d) (read_of s d) (latest_at s (reader_of t d))

room_stays : (t : Tables) (event : Event) (n : ℕ) (s : Clocks) (d : ℕ) → Differ (adds_to event) (Some d) → HasRoom s d
    → room_at t (effect event n s) d ≡ room_at t s d
room_stays t (Get p c v) n s d differ has =
    room_from_reads (get_or s.capacities d None) (written_of s d) (read_of s d) _ _ _ has
    (element_stays s.read c d n)
room_stays t (Put p c v) n s d differ has =
    ap (λ xs. room_there (get_or s.capacities d None) xs (read_of s d)
    (latest_at (clocks_with_put s p c n) (reader_of t d))) (list_other s.written c d n differ)
    ∙ room_from_reads (get_or s.capacities d None) (written_of s d) (read_of s d) (read_of s d) _ _ has
    (λ k z below. refl)
room_stays t (Feed c v) n s d differ has =
    ap (λ xs. room_there (get_or s.capacities d None) xs (read_of s d)
    (latest_at (effect (Feed c v) n s) (reader_of t d))) (list_other s.written c d 0 differ)
    ∙ room_from_reads (get_or s.capacities d None) (written_of s d) (read_of s d) (read_of s d) _ _ has
    (λ k z below. refl)
room_stays t (Take c v) n s d differ has =
    room_from_reads (get_or s.capacities d None) (written_of s d) (read_of s d) _ _ _ has
    (element_stays s.read c d n)
room_stays t event n s d differ has = refl

tick_stays : (t : Tables) (event other : Event) (n : ℕ) (s : Clocks) → CanBegin s other → AreIndependent event other
    → tick_at t (effect event n s) other ≡ tick_at t s other
tick_stays t event (Get q d w) n s can apart =
    ap (λ l. max l (item_there (effect event n s) d) + 1) (latest_stays event n s q apart.processes)
    ∙ ap (λ i. max (latest_of s q) i + 1) (item_stays event n s d apart.read can)
tick_stays t event (Put q d w) n s can apart =
    ap (λ l. max l (room_at t (effect event n s) d) + 1) (latest_stays event n s q apart.processes)
    ∙ ap (λ r. max (latest_of s q) r + 1) (room_stays t event n s d apart.written can)
tick_stays t event (Feed d w) n s can apart = refl
tick_stays t event (Take d w) n s can apart = item_stays event n s d apart.read can
tick_stays t event other n s can apart = absurd can

-- ---- both orders

abbrev clocks : List ℕ → List (List ℕ) → List (List ℕ) → List (Option ℕ) → ℕ → Clocks
clocks latest written read capacities last =
    record { latest = latest; written = written; read = read; capacities = capacities; last = last }

alike : (l k : List ℕ) (w v r q : List (List ℕ)) (c : List (Option ℕ)) (m n : ℕ) → l ≡ k → w ≡ v → r ≡ q → m ≡ n
    → clocks l w r c m ≡ clocks k v q c n
alike l k w v r q c m n latest written read last =
    ap (λ x. clocks x w r c m) latest ∙ ap (λ x. clocks k x r c m) written ∙ ap (λ x. clocks k v x c m) read
    ∙ ap (λ x. clocks k v q c x) last

last_changes : (last m n : ℕ) → max (max last m) n ≡ max (max last n) m
last_changes last m n = omega arith

effects_change : (event other : Event) (m n : ℕ) (s now : Clocks) → CanBegin now event → CanBegin now other
    → AreIndependent event other → effect other n (effect event m s) ≡ effect event m (effect other n s)
effects_change (Get p c v) (Get q d w) m n s now a b apart =
    alike _ _ _ _ _ _ s.capacities _ _ (set_comm s.latest p q m n apart.processes) refl
    (lists_change s.read c d m n apart.read) (last_changes s.last m n)
effects_change (Get p c v) (Put q d w) m n s now a b apart =
    alike _ _ _ _ _ _ s.capacities _ _ (set_comm s.latest p q m n apart.processes) refl refl (last_changes s.last m n)
effects_change (Get p c v) (Feed d w) m n s now a b apart = refl
effects_change (Get p c v) (Take d w) m n s now a b apart =
    ap (λ r. clocks (set s.latest p m) s.written r s.capacities (max s.last m)) (lists_change s.read c d m n apart.read)
effects_change (Put p c v) (Get q d w) m n s now a b apart =
    alike _ _ _ _ _ _ s.capacities _ _ (set_comm s.latest p q m n apart.processes) refl refl (last_changes s.last m n)
effects_change (Put p c v) (Put q d w) m n s now a b apart =
    alike _ _ _ _ _ _ s.capacities _ _ (set_comm s.latest p q m n apart.processes)
    (lists_change s.written c d m n apart.written) refl (last_changes s.last m n)
effects_change (Put p c v) (Feed d w) m n s now a b apart =
    ap (λ x. clocks (set s.latest p m) x s.read s.capacities (max s.last m))
    (lists_change s.written c d m 0 apart.written)
effects_change (Put p c v) (Take d w) m n s now a b apart = refl
effects_change (Feed c v) (Get q d w) m n s now a b apart = refl
effects_change (Feed c v) (Put q d w) m n s now a b apart =
    ap (λ x. clocks (set s.latest q n) x s.read s.capacities (max s.last n))
    (lists_change s.written c d 0 n apart.written)
effects_change (Feed c v) (Feed d w) m n s now a b apart =
    ap (λ x. clocks s.latest x s.read s.capacities s.last) (lists_change s.written c d 0 0 apart.written)
effects_change (Feed c v) (Take d w) m n s now a b apart = refl
effects_change (Take c v) (Get q d w) m n s now a b apart =
    ap (λ r. clocks (set s.latest q n) s.written r s.capacities (max s.last n)) (lists_change s.read c d m n apart.read)
effects_change (Take c v) (Put q d w) m n s now a b apart = refl
effects_change (Take c v) (Feed d w) m n s now a b apart = refl
effects_change (Take c v) (Take d w) m n s now a b apart =
    ap (λ r. clocks s.latest s.written r s.capacities s.last) (lists_change s.read c d m n apart.read)
effects_change event (WaitEmpty q d) m n s now a b apart = absurd b
effects_change event (WaitFull q d) m n s now a b apart = absurd b
effects_change event (Ended q how) m n s now a b apart = absurd b
effects_change event (Close d) m n s now a b apart = absurd b
effects_change event (Leave d) m n s now a b apart = absurd b
effects_change event (Grow q d k) m n s now a b apart = absurd b
effects_change event other m n s now a b apart = absurd a

differ_back : (m n : Option ℕ) → Differ m n → Differ n m
differ_back (Some m) (Some n) differ = λ is. differ (sym is)
differ_back None None differ = differ
differ_back None (Some n) differ = differ
differ_back (Some m) None differ = differ

apart_back : (event other : Event) → AreIndependent event other → AreIndependent other event
apart_back event other apart =
    record {
      processes = differ_back (process_of event) (process_of other) apart.processes;
      written = differ_back (adds_to event) (adds_to other) apart.written;
      read = differ_back (takes_from event) (takes_from other) apart.read;
    }

behind : (t : Tables) (s : Clocks) (event other : Event) → CanBegin s event → CanBegin s other → AreIndependent event other
    → clocks_with_event t (clocks_with_event t s event) other ≡ effect other (tick_at t s other) (effect event (tick_at t s event) s)
behind t s event other a b apart =
    let first = effect event (tick_at t s event) s in
    ap (λ x. clocks_with_event t x other) (has_effect t s s event a) ∙ has_effect t first s other b
    ∙ ap (λ m. effect other m first) (tick_stays t event other (tick_at t s event) s b apart)

both_orders : (t : Tables) (s : Clocks) (event other : Event) → CanChange s event other
    → clocks_with_event t (clocks_with_event t s event) other ≡ clocks_with_event t (clocks_with_event t s other) event
both_orders t s event other can =
    behind t s event other can.first can.second can.apart
    ∙ effects_change event other (tick_at t s event) (tick_at t s other) s s can.first can.second can.apart
    ∙ sym (behind t s other event can.second can.first (apart_back event other can.apart))

-- ---- histories

pub fold_along : (t : Tables) (s : Clocks) (B more : List Event)
    → fold (clocks_with_event t) s (B ++ more) ≡ fold (clocks_with_event t) (fold (clocks_with_event t) s B) more
fold_along t s [] more = refl
fold_along t s (event ∷ B) more = fold_along t (clocks_with_event t s event) B more

idle_stays : (t : Tables) (s : Clocks) (event : Event) → IsIdle event → clocks_with_event t s event ≡ s
idle_stays t s (Get p c v) idle = absurd idle
idle_stays t s (Put p c v) idle = absurd idle
idle_stays t s (Feed c v) idle = absurd idle
idle_stays t s (Take c v) idle = absurd idle
idle_stays t s (Grow p c n) idle = absurd idle
idle_stays t s event idle = refl

without_event : (t : Tables) (s : Clocks) (B : List Event) (event : Event) (more : List Event) → IsIdle event
    → fold (clocks_with_event t) s (B ++ event ∷ more) ≡ fold (clocks_with_event t) s (B ++ more)
without_event t s B event more idle =
    fold_along t s B (event ∷ more)
    ∙ ap (λ x. fold (clocks_with_event t) x more) (idle_stays t (fold (clocks_with_event t) s B) event idle)
    ∙ sym (fold_along t s B more)

pub reordered_clocks : (t : Tables) (b : Bool) (H G : List Event) → AreReordered t b H G
    → clocks_after t b H ≡ clocks_after t b G
reordered_clocks t b H _ same = refl
reordered_clocks t b H _ (changed B event other more from can) =
    let s = start t b in
    reordered_clocks t b H (B ++ event ∷ other ∷ more) from ∙ fold_along t s B (event ∷ other ∷ more)
    ∙ ap (λ x. fold (clocks_with_event t) x more) (both_orders t (fold (clocks_with_event t) s B) event other can)
    ∙ sym (fold_along t s B (other ∷ event ∷ more))
reordered_clocks t b H _ (with_idle B event more from idle) =
    reordered_clocks t b H (B ++ more) from ∙ sym (without_event t (start t b) B event more idle)
reordered_clocks t b H _ (without_idle B event more from idle) =
    reordered_clocks t b H (B ++ event ∷ more) from ∙ without_event t (start t b) B event more idle
