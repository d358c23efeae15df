-- The clocks after the events of a trace, and their course, are those of its history. The two differ only in the
-- capacities of growths, which neither looks at.
use Rattle.kpn_ticks.proofs.Common.{◌≡◌, Bool, List, [], ◌∷◌, ◌++◌, refl, ap, ◌∙◌, fold, Tables, Event, Grow, told, told_behind, history_of, Clocks, clocks_with_event, start, clocks_after, Course, course_then, walk_back, walk_start, shares_of}
use Rattle.kpn_history.specs.declared.stored.Version.{Version}
use Rattle.kpn_history.specs.declared.stored.Version.TheVariants.{One, Two}

pub same_after : (t told_of : Tables) (s : Clocks) (B : List Event) (event : Event)
    → clocks_with_event t s (told told_of B event) ≡ clocks_with_event t s event
same_after t told_of s B (Grow p c n) = refl
same_after t told_of s B event = refl

told_clocks : (t told_of : Tables) (s : Clocks) (B events : List Event)
    → fold (clocks_with_event t) s (told_behind told_of B events) ≡ fold (clocks_with_event t) s events
told_clocks t told_of s B [] = refl
told_clocks t told_of s B (event ∷ events) =
    ap (λ (s : Clocks). fold (clocks_with_event t) s (told_behind told_of (B ++ told told_of B event ∷ []) events))
    (same_after t told_of s B event)
    ∙ told_clocks t told_of (clocks_with_event t s event) (B ++ told told_of B event ∷ []) events

pub history_clocks : (v : Version) (t : Tables) (b : Bool) (events : List Event)
    → clocks_after t b (history_of v t events) ≡ clocks_after t b events
history_clocks One t b events = told_clocks t t (start t b) [] events
history_clocks Two t b events = refl

-- ---- courses

same_move : (t told_of : Tables) (x : Course) (B : List Event) (event : Event)
    → course_then t x (told told_of B event) ≡ course_then t x event
same_move t told_of x B (Grow p c n) = refl
same_move t told_of x B event = refl

told_course : (t told_of : Tables) (x : Course) (B events : List Event)
    → fold (course_then t) x (told_behind told_of B events) ≡ fold (course_then t) x events
told_course t told_of x B [] = refl
told_course t told_of x B (event ∷ events) =
    ap (λ (x : Course). fold (course_then t) x (told_behind told_of (B ++ told told_of B event ∷ []) events))
    (same_move t told_of x B event)
    ∙ told_course t told_of (course_then t x event) (B ++ told told_of B event ∷ []) events

pub history_shares : (v : Version) (t : Tables) (events : List Event)
    → shares_of t (history_of v t events) ≡ shares_of t events
history_shares One t events =
    ap (λ (x : Course). (walk_back t (walk_start t x.clocks) x.moves).shares) (told_course t t _ [] events)
history_shares Two t events = refl
