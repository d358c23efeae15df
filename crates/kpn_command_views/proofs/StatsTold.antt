-- The figures of the events of a trace are those of its history. The two differ only in the capacities of growths, and
-- no figure depends on those.
use Rattle.kpn_command_views.proofs.Common.{◌≡◌, ℕ, ℤ, ◌≤◌, Bool, true, false, cond, List, [], ◌∷◌, ◌++◌, length, map, take, drop, count_by, sum, refl, sym, ap, ap₂, ◌∙◌, subst, flat_map, sum-map, take-map, length-map, Global, Tables, Event, Grow, Version, One, Two, Trace, written_in, read_in, written_on, read_on, is_growth_of, told, told_behind, history_of, tables_for, history_in, ChannelFigures, ProcessFigures, Figures, Clocks, clocks_after, shown, is_move, AreTimes, waits_for_item, waits_for_room, is_get_of, is_put_of, is_wait_empty_of, is_wait_full_of, unread_behind, IsMostUnread, CountsChannel, CountsProcess, AreFigures}
use Rattle.kpn_ticks.specs.Chain.{shares_of}
use Rattle.kpn_command_views.specs.declared.times.HistoryTimes.{HistoryTimes}

-- ---- events without the capacities of growths

abbrev plain : Event → Event
plain (Grow p c n) = Grow p c 0
plain event = event

told_plain : (t : Tables) (B : List Event) (e : Event) → plain (told t B e) ≡ plain e
told_plain t B (Grow p c n) = refl
told_plain t B event = refl

told_behind_plain : (t : Tables) (B events : List Event) → map plain (told_behind t B events) ≡ map plain events
told_behind_plain t B [] = refl
told_behind_plain t B (e ∷ events) =
    ap₂ (λ (x : Event) (xs : List Event). x ∷ xs) (told_plain t B e)
    (told_behind_plain t (B ++ told t B e ∷ []) events)

history_plain : (v : Version) (t : Tables) (events : List Event) → map plain events ≡ map plain (history_of v t events)
history_plain One t events = sym (told_behind_plain t [] events)
history_plain Two t events = refl

-- what depends on no capacity
blind : {A : Type 0} (f : Event → A) → ((p c n : ℕ) → f (Grow p c 0) ≡ f (Grow p c n)) → (e : Event)
    → f (plain e) ≡ f e
blind f none (Grow p c n) = none p c n
blind f none event = refl

flat_plain : {A : Type 0} (f : Event → List A) → ((p c n : ℕ) → f (Grow p c 0) ≡ f (Grow p c n)) → (H : List Event)
    → flat_map f (map plain H) ≡ flat_map f H
flat_plain f none [] = refl
flat_plain f none (e ∷ H) = ap₂ (λ xs ys. xs ++ ys) (blind f none e) (flat_plain f none H)

map_plain : (f : Event → ℕ) → ((p c n : ℕ) → f (Grow p c 0) ≡ f (Grow p c n)) → (H : List Event)
    → map f (map plain H) ≡ map f H
map_plain f none [] = refl
map_plain f none (e ∷ H) = ap₂ (λ n ns. n ∷ ns) (blind f none e) (map_plain f none H)

count_plain : (f : Event → Bool) → ((p c n : ℕ) → f (Grow p c 0) ≡ f (Grow p c n)) → (H : List Event)
    → count_by f (map plain H) ≡ count_by f H
count_plain f none H =
    let mark = λ (e : Event). cond {A = ℕ} (f e) 1 0 in
    sym (sum-map mark (map plain H)) ∙ ap sum (map_plain mark (λ p c n. ap (λ b. cond {A = ℕ} b 1 0) (none p c n)) H)
    ∙ sum-map mark H

-- ---- histories that differ only in these capacities

abbrev Alike : List Event → List Event → Type 0
Alike H G = map plain H ≡ map plain G

same_flat : {A : Type 0} (f : Event → List A) → ((p c n : ℕ) → f (Grow p c 0) ≡ f (Grow p c n)) → (H G : List Event)
    → Alike H G → flat_map f H ≡ flat_map f G
same_flat f none H G alike = sym (flat_plain f none H) ∙ ap (flat_map f) alike ∙ flat_plain f none G

same_count : (f : Event → Bool) → ((p c n : ℕ) → f (Grow p c 0) ≡ f (Grow p c n)) → (H G : List Event)
    → Alike H G → count_by f H ≡ count_by f G
same_count f none H G alike = sym (count_plain f none H) ∙ ap (count_by f) alike ∙ count_plain f none G

alike_take : (H G : List Event) (k : ℕ) → Alike H G → Alike (take k H) (take k G)
alike_take H G k alike = sym (take-map plain k H) ∙ ap (take k) alike ∙ take-map plain k G

alike_length : (H G : List Event) → Alike H G → length H ≡ length G
alike_length H G alike = sym (length-map H plain) ∙ ap length alike ∙ length-map G plain

same_written : (H G : List Event) (c : ℕ) → Alike H G → written_on H c ≡ written_on G c
same_written H G c alike = same_flat (written_in c) (λ p d n. refl) H G alike

same_read : (H G : List Event) (c : ℕ) → Alike H G → read_on H c ≡ read_on G c
same_read H G c alike = same_flat (read_in c) (λ p d n. refl) H G alike

same_unread : (H G : List Event) (c k : ℕ) → Alike H G → unread_behind H c k ≡ unread_behind G c k
same_unread H G c k alike =
    let behind = alike_take H G k alike in
    ap₂ (λ (r w : List ℤ). length (drop (length r) w)) (same_read (take k H) (take k G) c behind)
    (same_written (take k H) (take k G) c behind)

most_alike : (H G : List Event) (c m : ℕ) → Alike H G → IsMostUnread H c m → IsMostUnread G c m
most_alike H G c m alike most =
    let at = most.reached in
    record {
      reached = (
        at.0,
        (
          subst (λ n. at.0 ≤ n) (alike_length H G alike) at.1.0,
          sym (same_unread H G c at.0 alike) ∙ at.1.1,
        ),
      );
      bounded = λ k fits.
          subst (λ n. n ≤ m) (same_unread H G c k alike)
          (most.bounded k (subst (λ n. k ≤ n) (sym (alike_length H G alike)) fits));
    }

channel_alike : (H G : List Event) (c : ℕ) (f : ChannelFigures) → Alike H G → CountsChannel H c f
    → CountsChannel G c f
channel_alike H G c f alike counts =
    record {
      put = counts.put ∙ ap length (same_written H G c alike);
      read = counts.read ∙ ap length (same_read H G c alike);
      most = most_alike H G c f.most alike counts.most;
      growths = counts.growths ∙ same_count (is_growth_of c) (λ p d n. refl) H G alike;
      waits_empty = counts.waits_empty ∙ same_count (waits_for_item c) (λ p d n. refl) H G alike;
      waits_full = counts.waits_full ∙ same_count (waits_for_room c) (λ p d n. refl) H G alike;
    }

process_alike : (H G : List Event) (p : ℕ) (f : ProcessFigures) → Alike H G → CountsProcess H p f
    → CountsProcess G p f
process_alike H G p f alike counts =
    record {
      gets = counts.gets ∙ same_count (is_get_of p) (λ q d n. refl) H G alike;
      puts = counts.puts ∙ same_count (is_put_of p) (λ q d n. refl) H G alike;
      waits_empty = counts.waits_empty ∙ same_count (is_wait_empty_of p) (λ q d n. refl) H G alike;
      waits_full = counts.waits_full ∙ same_count (is_wait_full_of p) (λ q d n. refl) H G alike;
    }

pub of_history : (t : Tables) (trace : Trace Global) (figures : Figures) → AreFigures t trace.events figures
    → AreFigures t (history_in t trace) figures
of_history t trace figures are =
    let alike = history_plain trace.version (tables_for t trace) trace.events in
    record {
      channel_count = are.channel_count;
      channels = λ c below. channel_alike trace.events (history_in t trace) c _ alike (are.channels c below);
      process_count = are.process_count;
      processes = λ p below. process_alike trace.events (history_in t trace) p _ alike (are.processes p below);
    }

pub times_of_history : (t : Tables) (trace : Trace Global) (times : HistoryTimes) (bounded free : Clocks)
    → shown times.bounded ≡ bounded → shown times.free ≡ free
    → bounded ≡ clocks_after (tables_for t trace) true (history_in t trace)
    → free ≡ clocks_after (tables_for t trace) false (history_in t trace)
    → times.shares.items ≡ shares_of (tables_for t trace) (history_in t trace)
    → times.events ≡ length trace.events → times.moves ≡ count_by is_move trace.events
    → AreTimes (tables_for t trace) (history_in t trace) times
times_of_history t trace times bounded free is_bounded is_free with_caps without shares events moves =
    let alike = history_plain trace.version (tables_for t trace) trace.events in
    record {
      bounded = is_bounded ∙ with_caps;
      free = is_free ∙ without;
      shares = shares;
      events = events ∙ alike_length trace.events (history_in t trace) alike;
      moves = moves ∙ same_count is_move (λ p c n. refl) trace.events (history_in t trace) alike;
    }
