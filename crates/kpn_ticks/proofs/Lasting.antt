-- The last tick of all is the largest that a process has.
use Rattle.kpn_ticks.proofs.Common.{◌≡◌, ℕ, zero, suc, ◌≤◌, Bool, true, false, cond, eqb, eq-eqb, List, [], ◌∷◌, ◌++◌, get_or, refl, sym, subst, arith, fold, Tables, Event, Get, Put, Clocks, get_tick, put_tick, clocks_with_event, start, clocks_after, seen_from, tick_in, ticks_of}

without_first : (b : Bool) (x m : ℕ) (rest : List ℕ) → ((k : ℕ) → get_or (cond b (x ∷ []) [] ++ rest) k 0 ≤ m)
    → (k : ℕ) → get_or rest k 0 ≤ m
without_first true x m rest all k = all (suc k)
without_first false x m rest all k = all k

with_first : (b : Bool) (x m : ℕ) (rest : List ℕ) → x ≤ m → ((k : ℕ) → get_or rest k 0 ≤ m) → (k : ℕ)
    → get_or (cond b (x ∷ []) [] ++ rest) k 0 ≤ m
with_first true x m rest first all zero = first
with_first true x m rest first all (suc k) = all k
with_first false x m rest first all k = all k

last_grows : (t : Tables) (s : Clocks) (e : Event) → s.last ≤ (clocks_with_event t s e).last
last_grows t s (Get p c v) = omega arith
last_grows t s (Put p c v) = omega arith
last_grows t s e = omega arith

last_stays : (t : Tables) (H : List Event) (s : Clocks) → s.last ≤ (fold (clocks_with_event t) s H).last
last_stays t [] s = omega arith
last_stays t (e ∷ H) s =
    let one = last_grows t s e in let more = last_stays t H (clocks_with_event t s e) in omega (arith, one, more)

-- no tick of a process is later
each_by_last : (t : Tables) (p : ℕ) (H : List Event) (s : Clocks) (k : ℕ)
    → get_or (seen_from (tick_in t p) t s H) k 0 ≤ (fold (clocks_with_event t) s H).last
each_by_last t p [] s k = omega arith
each_by_last t p (Get q c v ∷ H) s k =
    let later = last_stays t H (clocks_with_event t s (Get q c v)) in
    with_first (eqb q p) (get_tick s q c) (fold (clocks_with_event t) (clocks_with_event t s (Get q c v)) H).last
    (seen_from (tick_in t p) t (clocks_with_event t s (Get q c v)) H) (omega (arith, later))
    (each_by_last t p H (clocks_with_event t s (Get q c v))) k
each_by_last t p (Put q c v ∷ H) s k =
    let later = last_stays t H (clocks_with_event t s (Put q c v)) in
    with_first (eqb q p) (put_tick t s q c) (fold (clocks_with_event t) (clocks_with_event t s (Put q c v)) H).last
    (seen_from (tick_in t p) t (clocks_with_event t s (Put q c v)) H) (omega (arith, later))
    (each_by_last t p H (clocks_with_event t s (Put q c v))) k
each_by_last t p (e ∷ H) s k = each_by_last t p H (clocks_with_event t s e) k

own_tick : (q tick m : ℕ) (rest : List ℕ) → ((k : ℕ) → get_or (cond (eqb q q) (tick ∷ []) [] ++ rest) k 0 ≤ m)
    → tick ≤ m
own_tick q tick m rest all =
    subst (λ b. get_or (cond b (tick ∷ []) [] ++ rest) 0 0 ≤ m) (eq-eqb q q refl) (all 0)

-- nothing smaller has all ticks up to it
last_is_least : (t : Tables) (m : ℕ) (H : List Event) (s : Clocks) → s.last ≤ m
    → ((p k : ℕ) → get_or (seen_from (tick_in t p) t s H) k 0 ≤ m) → (fold (clocks_with_event t) s H).last ≤ m
last_is_least t m [] s less all = less
last_is_least t m (Get q c v ∷ H) s less all =
    let rest : ℕ → List ℕ = λ p. seen_from (tick_in t p) t (clocks_with_event t s (Get q c v)) H in
    let tick = own_tick q (get_tick s q c) m (rest q) (all q) in
    last_is_least t m H (clocks_with_event t s (Get q c v)) (omega (arith, less, tick))
    (λ p. without_first (eqb q p) (get_tick s q c) m (rest p) (all p))
last_is_least t m (Put q c v ∷ H) s less all =
    let rest : ℕ → List ℕ = λ p. seen_from (tick_in t p) t (clocks_with_event t s (Put q c v)) H in
    let tick = own_tick q (put_tick t s q c) m (rest q) (all q) in
    last_is_least t m H (clocks_with_event t s (Put q c v)) (omega (arith, less, tick))
    (λ p. without_first (eqb q p) (put_tick t s q c) m (rest p) (all p))
last_is_least t m (e ∷ H) s less all = last_is_least t m H (clocks_with_event t s e) less all

up_to : (t : Tables) (b : Bool) (H G : List Event) → ((p : ℕ) → ticks_of t b H p ≡ ticks_of t b G p)
    → (clocks_after t b H).last ≤ (clocks_after t b G).last
up_to t b H G same =
    last_is_least t (clocks_after t b G).last H (start t b) (omega arith)
    (λ p k. subst (λ ticks. get_or ticks k 0 ≤ (clocks_after t b G).last) (sym (same p))
    (each_by_last t p G (start t b) k))

-- histories with the same ticks have the same last tick
pub same_last : (t : Tables) (b : Bool) (H G : List Event) → ((p : ℕ) → ticks_of t b H p ≡ ticks_of t b G p)
    → (clocks_after t b H).last ≡ (clocks_after t b G).last
same_last t b H G same =
    let here = up_to t b H G same in let there = up_to t b G H (λ p. sym (same p)) in omega (arith, here, there)
