-- A course has the clocks of its events, and a trace has the course of its history. A walk along it takes few steps.
use Rattle.kpn_ticks.proofs.Common.{◌≡◌, ℕ, ◌+◌, ◌-◌, ◌<◌, ◌≤◌, Bool, true, false, if◌then◌else◌, List, [], ◌∷◌, length, drop, get_or, refl, sym, ap, ◌∙◌, subst, arith, fold, drop_more, Tables, Event, Move, clocks_with_event, clocks_after, Course, course_then, course_of, Walk, walk_then, walk_back}
use Rattle.kpn_ticks.proofs.Counting.{set_up_to}

-- ---- clocks

clocks_along : (t : Tables) (x : Course) (events : List Event)
    → (fold (course_then t) x events).clocks ≡ fold (clocks_with_event t) x.clocks events
clocks_along t x [] = refl
clocks_along t x (event ∷ events) = clocks_along t (course_then t x event) events

pub course_clocks : (t : Tables) (events : List Event) → (course_of t events).clocks ≡ clocks_after t true events
course_clocks t events = clocks_along t _ events

-- ---- walks

walked_on : (t : Tables) (start w now : Walk) (moves : List Move) (i k : ℕ) (d : Move) → i < length moves
    → k ≡ length moves - 1 - i → w ≡ walk_back t start (drop (length moves - i) moves)
    → now ≡ walk_then t w (get_or moves k d) → now ≡ walk_back t start (drop (length moves - (i + 1)) moves)
walked_on t start w now moves i k d within is_k so_far step =
    let below : k < length moves = omega (arith, within, is_k) in
    let before : length moves - i ≡ k + 1 = omega (arith, within, is_k) in
    let here : k ≡ length moves - (i + 1) = omega (arith, within, is_k) in
    step
    ∙ ap (λ (x : Walk). walk_then t x (get_or moves k d))
    (so_far ∙ ap (λ n. walk_back t start (drop n moves)) before)
    ∙ sym (ap (walk_back t start) (drop_more moves k d below))
    ∙ ap (λ n. walk_back t start (drop n moves)) here

count_up_to : (w : Walk) (p n : ℕ) → ((q : ℕ) → get_or w.shares q 0 ≤ n) → get_or w.shares p 0 + 1 ≤ n + 1
count_up_to w p n all = let here = all p in omega (arith, here)

chosen_up_to : (b : Bool) (w past : Walk) (n : ℕ) → ((q : ℕ) → get_or past.shares q 0 ≤ n + 1)
    → ((q : ℕ) → get_or w.shares q 0 ≤ n) → (q : ℕ) → get_or (if b then past else w).shares q 0 ≤ n + 1
chosen_up_to true w past n new old q = new q
chosen_up_to false w past n new old q = let here = old q in omega (arith, here)

then_up_to : (t : Tables) (w : Walk) (m : Move) (n : ℕ) → ((q : ℕ) → get_or w.shares q 0 ≤ n) → (q : ℕ)
    → get_or (walk_then t w m).shares q 0 ≤ n + 1
then_up_to t w m n all =
    chosen_up_to _ w _ n
    (set_up_to n (n + 1) w.shares m.process (get_or w.shares m.process 0 + 1) all (omega arith)
    (count_up_to w m.process n all))
    all

shares_up_to : (t : Tables) (w now : Walk) (m : Move) (n : ℕ) → now ≡ walk_then t w m
    → ((q : ℕ) → get_or w.shares q 0 ≤ n) → (q : ℕ) → get_or now.shares q 0 ≤ n + 1
shares_up_to t w now m n step all q =
    subst (λ (x : Walk). get_or x.shares q 0 ≤ n + 1) (sym step) (then_up_to t w m n all q)

-- the walk goes past one get or put more, and no share is larger by more than one
pub one_past : (t : Tables) (start w now : Walk) (moves : List Move) (i k : ℕ) (d : Move) → i < length moves
    → k ≡ length moves - 1 - i
    → (w ≡ walk_back t start (drop (length moves - i) moves)) × ((q : ℕ) → get_or w.shares q 0 ≤ i)
    → now ≡ walk_then t w (get_or moves k d)
    → (now ≡ walk_back t start (drop (length moves - (i + 1)) moves)) × ((q : ℕ) → get_or now.shares q 0 ≤ i + 1)
one_past t start w now moves i k d within is_k so_far step = (
  walked_on t start w now moves i k d within is_k so_far.0 step,
  shares_up_to t w now (get_or moves k d) i step so_far.1,
)
