-- Texts that grow line by line.
use Rattle.kpn_command_views.proofs.Common.{◌≡◌, ℕ, ◌+◌, ◌-◌, ◌<◌, ◌≤◌, List, [], ◌∷◌, ◌++◌, length, map, take, drop, get_or, sym, ap, ◌∙◌, refl, true, append_assoc, arith, concat, fold, range_with_len, Tables, Event, Clocks, clocks_with_event, start, clocks_after, each_below, event_lines, all_event_lines, counter_line, read_lines, counter_lines}
use Rattle.std.proofs.lemmas.List.{append-nil, drop_more, drop-drop, take_all, take_more, length-drop}
use Rattle.std.proofs.lemmas.List.Folds.{concat-append}
use Rattle.std.proofs.lemmas.List.FromFn.{map-range_with_len_more}
use Rattle.kpn_ticks.specs.Held.{reads_before}

-- the lines of one number more
pub each_next : (n : ℕ) (line : ℕ → List ℕ) → each_below (n + 1) line ≡ each_below n line ++ line n
each_next n line =
    ap concat (map-range_with_len_more line 0 n n (omega arith))
    ∙ concat-append (map line (range_with_len 0 n)) (line n ∷ [])
    ∙ ap (λ xs. each_below n line ++ xs) (append-nil (line n))

pub one_more : (line : ℕ → List ℕ) (n : ℕ) (start so_far more : List ℕ) → so_far ≡ start ++ each_below n line
    → more ≡ so_far ++ line n → more ≡ start ++ each_below (n + 1) line
one_more line n start so_far more is added =
    added ∙ ap (λ xs. xs ++ line n) is ∙ append_assoc start (each_below n line) (line n)
    ∙ ap (λ xs. start ++ xs) (sym (each_next n line))

-- one event more of those to come
pub events_next : (names : List (List ℕ)) (t : Tables) (s after_it : Clocks) (events : List Event) (k : ℕ) (d : Event)
    (text more : List ℕ) → k < length events → more ≡ text ++ event_lines names t s (get_or events k d)
    → after_it ≡ clocks_with_event t s (get_or events k d)
    → more ++ all_event_lines names t after_it (drop (k + 1) events)
    ≡ text ++ all_event_lines names t s (drop k events)
events_next names t s after_it events k d text more below added counted =
    let event = get_or events k d in
    let rest = drop (k + 1) events in
    ap (λ (s : Clocks). more ++ all_event_lines names t s rest) counted
    ∙ ap (λ xs. xs ++ all_event_lines names t (clocks_with_event t s event) rest) added
    ∙ append_assoc text (event_lines names t s event) (all_event_lines names t (clocks_with_event t s event) rest)
    ∙ ap (λ (es : List Event). text ++ all_event_lines names t s es) (sym (drop_more events k d below))

-- nothing is to come
pub nothing_more : {X : Type 0} (rest : List X → List ℕ) (xs : List X) (text whole : List ℕ) → rest [] ≡ []
    → xs ≡ [] → text ++ rest xs ≡ whole → text ≡ whole
nothing_more rest xs text whole none past is =
    sym (append-nil text) ∙ ap (λ ys. text ++ ys) (sym none) ∙ ap (λ ys. text ++ rest ys) (sym past) ∙ is

-- one write more, with the reads before it
pub counters_next : (name : List ℕ) (unread now : ℕ) (written reads rest : List ℕ) (k d gone : ℕ)
    (text more : List ℕ) → k < length written → gone ≡ reads_before (get_or written k d) reads
    → now ≡ unread - gone + 1 → rest ≡ drop gone reads
    → more ≡ text ++ (read_lines name unread (take gone reads) ++ counter_line name (get_or written k d) now)
    → more ++ counter_lines name now (drop (k + 1) written) rest
    ≡ text ++ counter_lines name unread (drop k written) reads
counters_next name unread now written reads rest k d gone text more below is left behind added =
    let tick = get_or written k d in
    let lines = read_lines name unread (take gone reads) ++ counter_line name tick now in
    let to_come = counter_lines name now (drop (k + 1) written) rest in
    let step : lines ++ to_come ≡ counter_lines name unread (tick ∷ drop (k + 1) written) reads =
    ap (λ xs. lines ++ counter_lines name now (drop (k + 1) written) xs) behind
    ∙ ap (λ n. read_lines name unread (take gone reads) ++ counter_line name tick n
    ++ counter_lines name n (drop (k + 1) written) (drop gone reads)) left
    ∙ ap (λ g. read_lines name unread (take g reads) ++ counter_line name tick (unread - g + 1)
    ++ counter_lines name (unread - g + 1) (drop (k + 1) written) (drop g reads)) is in
    ap (λ xs. xs ++ to_come) added ∙ append_assoc text lines to_come ∙ ap (λ xs. text ++ xs) step
    ∙ ap (λ (ws : List ℕ). text ++ counter_lines name unread ws reads) (sym (drop_more written k d below))

-- one read more
pub reads_next : (name : List ℕ) (unread left : ℕ) (reads : List ℕ) (k d : ℕ) (text more : List ℕ)
    → k < length reads → left ≡ unread - 1 → more ≡ text ++ counter_line name (get_or reads k d) left
    → more ++ read_lines name left (drop (k + 1) reads) ≡ text ++ read_lines name unread (drop k reads)
reads_next name unread left reads k d text more below is added =
    let tick = get_or reads k d in
    let rest = drop (k + 1) reads in
    ap (λ xs. xs ++ read_lines name left rest) added
    ∙ append_assoc text (counter_line name tick left) (read_lines name left rest)
    ∙ ap (λ n. text ++ (counter_line name tick n ++ read_lines name n rest)) is
    ∙ ap (λ (rs : List ℕ). text ++ read_lines name unread rs) (sym (drop_more reads k d below))

-- the same for reads from a place on
pub write_next : (name : List ℕ) (unread now : ℕ) (written reads : List ℕ) (place k d gone : ℕ) (text more : List ℕ)
    → k < length written → place ≤ length reads
    → gone ≡ reads_before (get_or written k d) (take (length reads - place) (drop place reads))
    → gone ≤ length (take (length reads - place) (drop place reads)) → now ≡ unread - gone + 1
    → more ≡ text
    ++ (read_lines name unread
    (take (reads_before (get_or written k d) (take (length reads - place) (drop place reads)))
    (take (length reads - place) (drop place reads)))
    ++ counter_line name (get_or written k d)
    (unread - reads_before (get_or written k d) (take (length reads - place) (drop place reads)) + 1))
    → (more ++ counter_lines name now (drop (k + 1) written) (drop (place + gone) reads)
    ≡ text ++ counter_lines name unread (drop k written) (drop place reads)) × (place + gone ≤ length reads)
write_next name unread now written reads place k d gone text more below there is within left added =
    let rest = drop place reads in
    let all : take (length reads - place) rest ≡ rest =
    take_all (length reads - place) rest (omega (arith, length-drop place reads, there)) in
    let tick = get_or written k d in
    let lines : List ℕ → ℕ → List ℕ =
    λ xs g. text ++ (read_lines name unread (take g xs) ++ counter_line name tick (unread - g + 1)) in
    let plain : gone ≡ reads_before tick rest = is ∙ ap (reads_before tick) all in
    let told : more ≡ lines rest gone =
    added ∙ ap (λ (xs : List ℕ). lines xs (reads_before tick xs)) all ∙ ap (lines rest) (sym plain) in
    let last : more ≡ text ++ (read_lines name unread (take gone rest) ++ counter_line name tick now) =
    told ∙ ap (λ n. text ++ (read_lines name unread (take gone rest) ++ counter_line name tick n)) (sym left) in (
      counters_next name unread now written rest (drop (place + gone) reads) k d gone text more below plain left
          (sym (drop-drop gone place reads)) last,
      omega (arith, within, ap length all, length-drop place reads, there),
    )

-- ---- clocks

fold_last : {A B : Type 0} (f : A → B → A) (a : A) (xs : List B) (x : B)
    → fold f a (xs ++ x ∷ []) ≡ f (fold f a xs) x
fold_last f a [] x = refl
fold_last f a (y ∷ xs) x = fold_last f (f a y) xs x

pub clocks_next : (t : Tables) (s now : Clocks) (events : List Event) (k : ℕ) (d : Event) → k < length events
    → s ≡ clocks_after t true (take k events) → now ≡ clocks_with_event t s (get_or events k d)
    → now ≡ clocks_after t true (take (k + 1) events)
clocks_next t s now events k d below so_far counted =
    counted ∙ ap (λ (x : Clocks). clocks_with_event t x (get_or events k d)) so_far
    ∙ sym (fold_last (clocks_with_event t) (start t true) (take k events) (get_or events k d))
    ∙ ap (λ (es : List Event). clocks_after t true es) (sym (take_more events k d below))
