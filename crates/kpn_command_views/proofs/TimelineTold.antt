-- The timeline of the events of a trace is that of its history. The two differ only in the capacities of growths, which
-- no line shows.
use Rattle.kpn_command_views.proofs.Common.{◌≡◌, ℕ, true, List, [], ◌∷◌, ◌++◌, length, codes, refl, sym, ap, ap₂, ◌∙◌, name_at, Global, Wait, Tables, Event, Grow, Version, One, Two, Trace, Document, told, told_behind, history_of, tables_for, history_in, Clocks, clocks_with_event, start, same_after, history_clocks, timeline_head, track_line, each_below, event_lines, all_event_lines, last_waits, channel_counters, timeline}

same_lines : (names : List (List ℕ)) (t told_of : Tables) (s : Clocks) (B : List Event) (event : Event)
    → event_lines names t s (told told_of B event) ≡ event_lines names t s event
same_lines names t told_of s B (Grow p c n) = refl
same_lines names t told_of s B event = refl

told_lines : (names : List (List ℕ)) (t told_of : Tables) (s : Clocks) (B events : List Event)
    → all_event_lines names t s (told_behind told_of B events) ≡ all_event_lines names t s events
told_lines names t told_of s B [] = refl
told_lines names t told_of s B (event ∷ events) =
    let more = B ++ told told_of B event ∷ [] in
    ap₂ (λ (xs ys : List ℕ). xs ++ ys) (same_lines names t told_of s B event)
    (ap (λ (s : Clocks). all_event_lines names t s (told_behind told_of more events))
    (same_after t told_of s B event)
    ∙ told_lines names t told_of (clocks_with_event t s event) more events)

history_lines : (v : Version) (names : List (List ℕ)) (t : Tables) (events : List Event)
    → all_event_lines names t (start t true) (history_of v t events)
    ≡ all_event_lines names t (start t true) events
history_lines One names t events = told_lines names t t (start t true) [] events
history_lines Two names t events = refl

pub of_history : (d : Document) (trace : Trace Global) (waits : List Wait)
    → timeline d (tables_for d.tables trace) waits trace.events
    ≡ timeline d (tables_for d.tables trace) waits (history_in d.tables trace)
of_history d trace waits =
    let t = tables_for d.tables trace in
    sym (ap₂ (λ (lines : List ℕ) (s : Clocks).
    timeline_head ++ each_below (length t.instances) (λ p. track_line p (name_at d.names.instances p)) ++ lines
    ++ last_waits d.names.channels (length t.instances) waits s
    ++ each_below (length t.channels) (channel_counters d.names.channels s) ++ codes "]}\n")
    (history_lines trace.version d.names.channels t trace.events) (history_clocks trace.version t true trace.events))
