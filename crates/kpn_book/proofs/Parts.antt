-- The parts of a report by number.
use Rattle.kpn_book.proofs.Common.{◌≡◌, ℕ, zero, suc, ◌+◌, ◌<◌, ◌≤◌, Bool, true, false, cond, List, [], ◌∷◌, ◌++◌, length, map, get_or, refl, sym, ap, ◌∙◌, subst, arith, append-nil, get_or-map, length-map, map-append, get_or_past, filter-append, Tables, channel_at, is_sink, channel_numbers, Contains-first, Contains-later, Event, read_on, sink_numbers, read_of_sinks}
use Rattle.std.specs.List.{Contains, filter, range_with_len}
use Rattle.kpn_book.proofs.Queueing.{range_next}
use Rattle.kpn_book.proofs.Agreeing.{number_below}

-- ---- lists

-- a number that is kept passes the test, and was there
pub kept_member : (f : ℕ → Bool) (xs : List ℕ) (i d : ℕ) → i < length (filter f xs)
    → (f (get_or (filter f xs) i d) ≡ true) × Contains xs (get_or (filter f xs) i d)
kept_member f [] i d below = absurd (omega arith)
kept_member f (x ∷ xs) i d below = by (f x) refl i below (λ k there. kept_member f xs k d there)
  where
    by : (b : Bool) → f x ≡ b → (i : ℕ) → i < length (cond b (x ∷ filter f xs) (filter f xs))
        → ((k : ℕ) → k < length (filter f xs)
        → (f (get_or (filter f xs) k d) ≡ true) × Contains xs (get_or (filter f xs) k d))
        → (f (get_or (cond b (x ∷ filter f xs) (filter f xs)) i d) ≡ true)
        × Contains (x ∷ xs) (get_or (cond b (x ∷ filter f xs) (filter f xs)) i d)
    by true e zero below rest = (e, Contains-first x xs)
    by true e (suc i) below rest =
        let r = rest i (omega arith) in
        (r.0, Contains-later x xs (get_or (filter f xs) i d) r.1)
    by false e i below rest =
        let r = rest i below in
        (r.0, Contains-later x xs (get_or (filter f xs) i d) r.1)

-- a list for each member that passes the test, with one number more
filter_next : (f : ℕ → Bool) (n : ℕ)
    → filter f (range_with_len 0 (n + 1)) ≡ filter f (range_with_len 0 n) ++ cond (f n) (n ∷ []) []
filter_next f n = ap (filter f) (range_next n) ∙ filter-append f (range_with_len 0 n) (n ∷ [])

pub kept_more : {A : Type 0} (f : ℕ → Bool) (g : ℕ → A) (n : ℕ) (lists more : List A) (list : A)
    → lists ≡ map g (filter f (range_with_len 0 n)) → f n ≡ true → more ≡ lists ++ list ∷ [] → list ≡ g n
    → more ≡ map g (filter f (range_with_len 0 (n + 1)))
kept_more f g n lists more list so_far is added same =
    added ∙ ap (λ ls. ls ++ list ∷ []) so_far
    ∙ ap (λ l. map g (filter f (range_with_len 0 n)) ++ l ∷ []) same
    ∙ sym (map-append g (filter f (range_with_len 0 n)) (n ∷ []))
    ∙ ap (λ b. map g (filter f (range_with_len 0 n) ++ cond b (n ∷ []) [])) (sym is)
    ∙ ap (map g) (sym (filter_next f n))

pub kept_same : {A : Type 0} (f : ℕ → Bool) (g : ℕ → A) (n : ℕ) (lists more : List A)
    → lists ≡ map g (filter f (range_with_len 0 n)) → f n ≡ false → more ≡ lists
    → more ≡ map g (filter f (range_with_len 0 (n + 1)))
kept_same f g n lists more so_far is same =
    same ∙ so_far
    ∙ ap (map g) (sym (append-nil (filter f (range_with_len 0 n)))
    ∙ ap (λ b. filter f (range_with_len 0 n) ++ cond b (n ∷ []) []) (sym is) ∙ sym (filter_next f n))

-- ---- sinks

-- the sink that has this many sinks before it
abbrev pub sink_at : Tables → (sink : ℕ) → ℕ
sink_at t sink = get_or (sink_numbers t) sink 0

pub sink_is : (t : Tables) (sink : ℕ) → sink < length (sink_numbers t)
    → (sink_at t sink < length t.channels) × (is_sink (channel_at t (sink_at t sink)) ≡ true)
sink_is t sink below =
    let r = kept_member (λ c. is_sink (channel_at t c)) (channel_numbers t) sink 0 below in
    (number_below (length t.channels) (sink_at t sink) r.1, r.0)

pub sink_below : (t : Tables) (c : ℕ) → Contains (sink_numbers t) c → c < length t.channels
sink_below t c (sink, below, e) =
    let r = kept_member (λ c. is_sink (channel_at t c)) (channel_numbers t) sink c below in
    number_below (length t.channels) c (subst (Contains (channel_numbers t)) e r.1)

-- what was read of a sink
pub read_of_sink : (t : Tables) (H : List Event) (sink : ℕ) → sink < length (sink_numbers t)
    → get_or (read_of_sinks t H) sink [] ≡ read_on H (sink_at t sink)
read_of_sink t H sink below = get_or-map (read_on H) (sink_numbers t) sink 0 [] below

pub read_of_sinks-length : (t : Tables) (H : List Event) → length (read_of_sinks t H) ≡ length (sink_numbers t)
read_of_sinks-length t H = length-map (sink_numbers t) (read_on H)

pub read_of_no_sink : (t : Tables) (H : List Event) (sink : ℕ) → length (sink_numbers t) ≤ sink
    → get_or (read_of_sinks t H) sink [] ≡ []
read_of_no_sink t H sink past =
    get_or_past (read_of_sinks t H) sink [] (let e = read_of_sinks-length t H in omega arith)
