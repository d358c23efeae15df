-- The picture of the events of a trace is that of its history. The two differ only in the capacities of growths, which
-- the picture does not show.
use Rattle.kpn_command_views.proofs.Common.{◌≡◌, ℕ, ◌+◌, max, true, List, [], ◌∷◌, ◌++◌, length, refl, sym, ap, ap₂, ◌∙◌, Wait, Tables, Event, Grow, Version, One, Two, Document, told, told_behind, history_of, Clocks, clocks_with_event, start, clocks_after, same_after, history_clocks, Scale, scale_for, ticks_in, event_boxes, all_event_boxes, last_boxes, box_count, all_box_count, last_counts, picture_head_text, grid_text, legend, picture, picture_size}

same_boxes : (names : List (List ℕ)) (t told_of : Tables) (s : Scale) (k : Clocks) (B : List Event) (event : Event)
    → event_boxes names t s k (told told_of B event) ≡ event_boxes names t s k event
same_boxes names t told_of s k B (Grow p c n) = refl
same_boxes names t told_of s k B event = refl

same_count : (t told_of : Tables) (s : Scale) (k : Clocks) (B : List Event) (event : Event)
    → box_count t s k (told told_of B event) ≡ box_count t s k event
same_count t told_of s k B (Grow p c n) = refl
same_count t told_of s k B event = refl

told_boxes : (names : List (List ℕ)) (t told_of : Tables) (s : Scale) (k : Clocks) (B events : List Event)
    → all_event_boxes names t s k (told_behind told_of B events) ≡ all_event_boxes names t s k events
told_boxes names t told_of s k B [] = refl
told_boxes names t told_of s k B (event ∷ events) =
    let more = B ++ told told_of B event ∷ [] in
    ap₂ (λ (xs ys : List ℕ). xs ++ ys) (same_boxes names t told_of s k B event)
    (ap (λ (k : Clocks). all_event_boxes names t s k (told_behind told_of more events)) (same_after t told_of k B event)
    ∙ told_boxes names t told_of s (clocks_with_event t k event) more events)

told_count : (t told_of : Tables) (s : Scale) (k : Clocks) (B events : List Event)
    → all_box_count t s k (told_behind told_of B events) ≡ all_box_count t s k events
told_count t told_of s k B [] = refl
told_count t told_of s k B (event ∷ events) =
    let more = B ++ told told_of B event ∷ [] in
    ap₂ (λ (m n : ℕ). m + n) (same_count t told_of s k B event)
    (ap (λ (k : Clocks). all_box_count t s k (told_behind told_of more events)) (same_after t told_of k B event)
    ∙ told_count t told_of s (clocks_with_event t k event) more events)

history_boxes : (v : Version) (names : List (List ℕ)) (t : Tables) (s : Scale) (events : List Event)
    → all_event_boxes names t s (start t true) (history_of v t events)
    ≡ all_event_boxes names t s (start t true) events
history_boxes One names t s events = told_boxes names t t s (start t true) [] events
history_boxes Two names t s events = refl

history_count : (v : Version) (t : Tables) (s : Scale) (events : List Event)
    → all_box_count t s (start t true) (history_of v t events) ≡ all_box_count t s (start t true) events
history_count One t s events = told_count t t s (start t true) [] events
history_count Two t s events = refl

module _ (d : Document) (t : Tables) (first last : ℕ) (waits : List Wait) where
  -- the scale for events after which these are the clocks
  abbrev scale_after : Clocks → Scale
  scale_after k = scale_for d.names.instances (length t.instances) first last k.last

  abbrev text_after : Clocks → List ℕ → List ℕ
  text_after k boxes =
      picture_head_text (scale_after k) (length t.instances) k.last
      ++ grid_text d.names.instances (scale_after k) (length t.instances)
      ++ (boxes ++ last_boxes d.names.channels (scale_after k) (length t.instances) waits k)
      ++ legend (length t.instances)

  abbrev size_after : Clocks → ℕ → ℕ
  size_after k count =
      max (ticks_in (scale_after k)) (count + last_counts (scale_after k) (length t.instances) waits k)

  pub same_picture : (v : Version) (events : List Event)
      → picture d t first last waits events ≡ picture d t first last waits (history_of v t events)
  same_picture v events =
      let history = history_of v t events in
      sym (ap (text_after (clocks_after t true history))
      (history_boxes v d.names.channels t (scale_after (clocks_after t true history)) events)
      ∙ ap (λ (k : Clocks). text_after k
      (all_event_boxes d.names.channels t (scale_after k) (start t true) events)) (history_clocks v t true events))

  pub same_size : (v : Version) (events : List Event)
      → picture_size d t first last waits events ≡ picture_size d t first last waits (history_of v t events)
  same_size v events =
      let history = history_of v t events in
      sym (ap (size_after (clocks_after t true history))
      (history_count v t (scale_after (clocks_after t true history)) events)
      ∙ ap (λ (k : Clocks). size_after k (all_box_count t (scale_after k) (start t true) events))
      (history_clocks v t true events))
