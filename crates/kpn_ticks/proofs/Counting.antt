-- No tick is larger than the last one, and the last one is no larger than the number of events.
use Rattle.kpn_ticks.proofs.Common.{◌≡◌, ℕ, zero, suc, ◌+◌, ◌-◌, ◌≤◌, max, Bool, true, false, nat_lt, cond, List, [], ◌∷◌, ◌++◌, length, set, get_or, replicate, map, Option, Some, None, sym, ap, ◌∙◌, subst, inl, inr, arith, fold, range_with_len, cases_lt, eqb_tells, get_or-set_same, get_or-set_other, length-set, length-replicate, get_or-replicate, get_or_append_left, get_or_push, get_or_past, length_push, length-map-range_with_len, map-range_with_len_more, Tables, channel_at, capacity, reader_of, End, Process, Source, Sink, Event, Get, Put, Feed, Take, Grow, Clocks, written_of, read_of, item_there, room_there, latest_at, get_tick, put_tick, with_tick, clocks_with_get, clocks_with_put, grown_from, clocks_with_event, start, clocks_after, AreClocks}
use Rattle.std.proofs.Math.Seq.{set_out}

-- ---- lists

-- an element of a list after one was set: that one, or what it was
pub set_cases : {X : Type 0} (P : X → Type 0) (xs : List X) (i : ℕ) (x d : X) (k : ℕ) → P x → P (get_or xs k d)
    → P (get_or (set xs i x) k d)
set_cases P xs i x d k new old =
    elim (cases_lt i (length xs)) [
      | inl within ↦ elim (eqb_tells k i) [
        | inl same ↦
            subst (λ j. P (get_or (set xs i x) j d)) (sym same.1)
            (subst P (sym (get_or-set_same xs i x d within)) new)
        | inr differs ↦ subst P (sym (get_or-set_other xs i k x d differs.1)) old
      ]
      | inr out ↦ subst (λ ys. P (get_or ys k d)) (sym (set_out xs i x out)) old
    ]

-- a number in a list with one more at its end
pub pushed_cases : (xs : List ℕ) (x m : ℕ) → ((k : ℕ) → get_or xs k 0 ≤ m) → x ≤ m → (k : ℕ)
    → get_or (xs ++ x ∷ []) k 0 ≤ m
pushed_cases xs x m all new k =
    elim (cases_lt k (length xs)) [
      | inl within ↦ subst (λ y. y ≤ m) (sym (get_or_append_left xs (x ∷ []) 0 k within)) (all k)
      | inr out ↦ elim (cases_lt (length xs) k) [
        | inl past ↦
            let long : length (xs ++ x ∷ []) ≤ k = omega (arith, past, length_push xs x) in
            subst (λ y. y ≤ m) (sym (get_or_past (xs ++ x ∷ []) k 0 long)) (omega arith)
        | inr last ↦
            let here : length xs ≡ k = omega (arith, out, last) in
            subst (λ y. y ≤ m) (sym (get_or_push xs x 0 k here)) new
      ]
    ]

larger : (n m : ℕ) (lists : List (List ℕ)) → n ≤ m → ((c k : ℕ) → get_or (get_or lists c []) k 0 ≤ n) → (c k : ℕ)
    → get_or (get_or lists c []) k 0 ≤ m
larger n m lists less all c k = let here = all c k in omega (arith, less, here)

with_tick_up_to : (m : ℕ) (lists : List (List ℕ)) (d tick : ℕ) → ((c k : ℕ) → get_or (get_or lists c []) k 0 ≤ m)
    → tick ≤ m → (c k : ℕ) → get_or (get_or (with_tick lists d tick) c []) k 0 ≤ m
with_tick_up_to m lists d tick all new c =
    set_cases (λ xs. (k : ℕ) → get_or xs k 0 ≤ m) lists d (get_or lists d [] ++ tick ∷ []) [] c
    (pushed_cases (get_or lists d []) tick m (all d) new) (all c)

pub set_up_to : (n m : ℕ) (xs : List ℕ) (p tick : ℕ) → ((q : ℕ) → get_or xs q 0 ≤ n) → n ≤ m → tick ≤ m → (q : ℕ)
    → get_or (set xs p tick) q 0 ≤ m
set_up_to n m xs p tick all less new q =
    set_cases (λ x. x ≤ m) xs p tick 0 q new (let here = all q in omega (arith, here, less))

-- ---- ticks

pub item_up_to : (t : Tables) (s : Clocks) (c : ℕ) → AreClocks t s → item_there s c ≤ s.last
item_up_to t s c are = are.written c (length (read_of s c))

latest_up_to : (t : Tables) (s : Clocks) (end : End) → AreClocks t s → latest_at s end ≤ s.last
latest_up_to t s (Process p) are = are.latest p
latest_up_to t s Source are = omega arith
latest_up_to t s Sink are = omega arith

-- an element, or another default
or_other : (xs : List ℕ) (k d m : ℕ) → get_or xs k 0 ≤ m → d ≤ m → get_or xs k d ≤ m
or_other [] k d m element other = other
or_other (x ∷ xs) zero d m element other = element
or_other (x ∷ xs) (suc k) d m element other = or_other xs k d m element other

cond_up_to : (b : Bool) (x y m : ℕ) → x ≤ m → y ≤ m → cond b x y ≤ m
cond_up_to true x y m first second = first
cond_up_to false x y m first second = second

pub room_from : (cap : Option ℕ) (written read : List ℕ) (reader m : ℕ) → ((k : ℕ) → get_or read k 0 ≤ m) → reader ≤ m
    → room_there cap written read reader ≤ m
room_from None written read reader m all gone = omega arith
room_from (Some cap) written read reader m all gone =
    cond_up_to (nat_lt (length written) cap) 0 (get_or read (length written - cap) reader) m (omega arith)
    (or_other read (length written - cap) reader m (all (length written - cap)) gone)

pub room_up_to : (t : Tables) (s : Clocks) (c : ℕ) → AreClocks t s
    → room_there (get_or s.capacities c None) (written_of s c) (read_of s c) (latest_at s (reader_of t c)) ≤ s.last
room_up_to t s c are =
    room_from (get_or s.capacities c None) (written_of s c) (read_of s c) (latest_at s (reader_of t c)) s.last
    (are.read c) (latest_up_to t s (reader_of t c) are)

get_up_to : (t : Tables) (s : Clocks) (p c : ℕ) → AreClocks t s → get_tick s p c ≤ s.last + 1
get_up_to t s p c are = let own = are.latest p in let item = item_up_to t s c are in omega (arith, own, item)

put_up_to : (t : Tables) (s : Clocks) (p c : ℕ) → AreClocks t s → put_tick t s p c ≤ s.last + 1
put_up_to t s p c are = let own = are.latest p in let room = room_up_to t s c are in omega (arith, own, room)

-- ---- events

after_get_are : (t : Tables) (s : Clocks) (p c tick : ℕ) → AreClocks t s → AreClocks t (clocks_with_get s p c tick)
after_get_are t s p c tick are =
    let last = max s.last tick in
    record {
      channels = are.channels;
      latest = set_up_to s.last last s.latest p tick are.latest (omega arith) (omega arith);
      written = larger s.last last s.written (omega arith) are.written;
      read =
          with_tick_up_to last s.read c tick (larger s.last last s.read (omega arith) are.read) (omega arith);
    }

after_put_are : (t : Tables) (s : Clocks) (p c tick : ℕ) → AreClocks t s → AreClocks t (clocks_with_put s p c tick)
after_put_are t s p c tick are =
    let last = max s.last tick in
    record {
      channels = are.channels;
      latest = set_up_to s.last last s.latest p tick are.latest (omega arith) (omega arith);
      written =
          with_tick_up_to last s.written c tick (larger s.last last s.written (omega arith) are.written) (omega arith);
      read = larger s.last last s.read (omega arith) are.read;
    }

after_are : (t : Tables) (s : Clocks) (event : Event) → AreClocks t s → AreClocks t (clocks_with_event t s event)
after_are t s (Get p c v) are = after_get_are t s p c (get_tick s p c) are
after_are t s (Put p c v) are = after_put_are t s p c (put_tick t s p c) are
after_are t s (Feed c v) are =
    record {
      channels = are.channels;
      latest = are.latest;
      written = with_tick_up_to s.last s.written c 0 are.written (omega arith);
      read = are.read;
    }
after_are t s (Take c v) are =
    record {
      channels = are.channels;
      latest = are.latest;
      written = are.written;
      read = with_tick_up_to s.last s.read c (item_there s c) are.read (item_up_to t s c are);
    }
after_are t s (Grow p c n) are =
    record {
      channels = length-set s.capacities c (grown_from t (get_or s.capacities c None)) ∙ are.channels;
      latest = are.latest;
      written = are.written;
      read = are.read;
    }
after_are t s event are = are

after_few : (t : Tables) (s : Clocks) (event : Event) → AreClocks t s → (clocks_with_event t s event).last ≤ s.last + 1
after_few t s (Get p c v) are = let tick = get_up_to t s p c are in omega (arith, tick)
after_few t s (Put p c v) are = let tick = put_up_to t s p c are in omega (arith, tick)
after_few t s event are = omega arith

-- ---- all events

all_are : (t : Tables) (events : List Event) (s : Clocks) → AreClocks t s → AreClocks t (fold (clocks_with_event t) s events)
all_are t [] s are = are
all_are t (event ∷ events) s are = all_are t events (clocks_with_event t s event) (after_are t s event are)

all_few : (t : Tables) (events : List Event) (s : Clocks) → AreClocks t s
    → (fold (clocks_with_event t) s events).last ≤ s.last + length events
all_few t [] s are = omega arith
all_few t (event ∷ events) s are =
    let more = all_few t events (clocks_with_event t s event) (after_are t s event are) in
    let one = after_few t s event are in
    let count : length (event ∷ events) ≡ length events + 1 = omega arith in
    omega (arith, more, one, count)

-- an element of a list of equal ones, of which one stands for those that are not there
pub all_alike : {A : Type 0} (x : A) (n k : ℕ) → get_or (replicate n x) k x ≡ x
all_alike x n k =
    elim (cases_lt k n) [
      | inl within ↦ get_or-replicate n k x x within
      | inr out ↦ let long = length-replicate n x in get_or_past (replicate n x) k x (omega (arith, out, long))
    ]

no_tick : (n c k : ℕ) → get_or (get_or (replicate {A = List ℕ} n []) c []) k 0 ≤ 0
no_tick n c k =
    subst (λ xs. get_or {A = ℕ} xs k 0 ≤ 0) (sym (all_alike {A = List ℕ} [] n c)) (omega arith)

pub zero_latest : (n p : ℕ) → get_or (replicate n 0) p 0 ≤ 0
zero_latest n p = let is = all_alike {A = ℕ} 0 n p in omega (arith, is)

first_capacities : (t : Tables) (b : Bool) → length (start t b).capacities ≡ length t.channels
first_capacities t true = length-map-range_with_len (λ c. capacity (channel_at t c)) 0 (length t.channels)
first_capacities t false = length-replicate (length t.channels) None

start_are : (t : Tables) (b : Bool) → AreClocks t (start t b)
start_are t b =
    record {
      channels = first_capacities t b;
      latest = zero_latest (length t.instances);
      written = no_tick (length t.channels);
      read = no_tick (length t.channels);
    }

-- the clocks after some events are clocks, and their last tick is at most the number of the events
pub clocks_are : (t : Tables) (b : Bool) (events : List Event) → AreClocks t (clocks_after t b events)
clocks_are t b events = all_are t events (start t b) (start_are t b)

pub ticks_are_few : (t : Tables) (b : Bool) (events : List Event) → (clocks_after t b events).last ≤ length events
ticks_are_few t b events = let few = all_few t events (start t b) (start_are t b) in omega (arith, few)

-- one entry more
pub one_more : {A : Type 0} (f : ℕ → A) (n : ℕ) (xs more : List A) → xs ≡ map f (range_with_len 0 n)
    → more ≡ xs ++ f n ∷ [] → more ≡ map f (range_with_len 0 (n + 1))
one_more f n xs more so_far added =
    added ∙ ap (λ ys. ys ++ f n ∷ []) so_far ∙ sym (map-range_with_len_more f 0 n n (omega arith))
