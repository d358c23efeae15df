-- The capacities at the puts, if no channel grows or none has a capacity.
use Rattle.kpn_ticks.proofs.Common.{◌≡◌, ◌≢◌, ◌⊎◌, ℕ, Bool, true, false, ◌||◌, cond, eqb, List, [], ◌∷◌, ◌++◌, length, set, get_or, replicate, Option, None, refl, sym, ap, ◌∙◌, subst, inl, inr, arith, list_any, cases_lt, both_ways, or_parts, ne_eqb, eqb-true, eqb_tells, length-set, get_or-set_same, get_or-set_other, get_or_past, put_at, End, Process, Source, Sink, Tables, writer_of, IsNetwork, Event, Put, Grow, talk_of, is_growth_of, Legal, IsOwn, by_events, IsOwn-last, written_on-put, Clocks, grown_from, clocks_with_event, start, clocks_after, seen_from, capacity_in, capacities_of, GrowsNothing, DifferBySchedule}
use Rattle.kpn_ticks.proofs.Counting.{all_alike}
use Rattle.kpn_ticks.proofs.Seen.{seen_push}
use Rattle.kpn_ticks.proofs.Rooms.{not_source, not_sink, capacities_counted}

-- ---- a capacity that stays

-- there is no growth among these, or no capacity
abbrev Stays : (grows : Bool) → Option ℕ → Type 0
Stays grows cap = (grows ≡ false) ⊎ (cap ≡ None)

first_stays : (first rest : Bool) (cap : Option ℕ) → Stays (first || rest) cap → Stays first cap
first_stays first rest cap (inl none) = inl (or_parts first rest none).0
first_stays first rest cap (inr is) = inr is

rest_stays : (first rest : Bool) (cap : Option ℕ) → Stays (first || rest) cap → Stays rest cap
rest_stays first rest cap (inl none) = inl (or_parts first rest none).1
rest_stays first rest cap (inr is) = inr is

none_grown : (t : Tables) (caps : List (Option ℕ)) (d : ℕ) → get_or caps d None ≡ None
    → get_or (set caps d (grown_from t (get_or caps d None))) d None ≡ None
none_grown t caps d is =
    let new = grown_from t (get_or caps d None) in
    elim (cases_lt d (length caps)) [
      | inl within ↦ get_or-set_same caps d new None within ∙ ap (grown_from t) is
      | inr out ↦
          get_or_past (set caps d new) d None (let long = length-set caps d new in omega (arith, out, long))
    ]

capacity_stays : (t : Tables) (s : Clocks) (c : ℕ) (cap : Option ℕ) (e : Event) → Stays (is_growth_of c e) cap
    → get_or s.capacities c None ≡ cap → get_or (clocks_with_event t s e).capacities c None ≡ cap
capacity_stays t s c cap (Grow p d n) stays has =
    let new = grown_from t (get_or s.capacities d None) in
    elim (eqb_tells d c) [
      | inl same ↦ elim stays [
        | inl none ↦ absurd (both_ways (eqb d c) none same.0)
        | inr is ↦
            subst (λ x. get_or (set s.capacities d new) x None ≡ None) same.1
            (none_grown t s.capacities d
            (subst (λ x. get_or s.capacities x None ≡ None) (sym same.1) (has ∙ is)))
            ∙ sym is
      ]
      | inr differ ↦ get_or-set_other s.capacities d c new None (λ x. differ.1 (sym x)) ∙ has
    ]
capacity_stays t s c cap e stays has = has

one_more_same : (b : Bool) (x cap : Option ℕ) (rest : List (Option ℕ)) → (b ≡ true → x ≡ cap)
    → rest ≡ replicate (length rest) cap
    → cond b (x ∷ []) [] ++ rest ≡ replicate (length (cond b (x ∷ []) [] ++ rest)) cap
one_more_same true x cap rest first all = ap (λ y. y ∷ rest) (first refl) ∙ ap (λ ys. cap ∷ ys) all
one_more_same false x cap rest first all = all

all_same : (t : Tables) (c : ℕ) (cap : Option ℕ) (H : List Event) (s : Clocks)
    → Stays (list_any (is_growth_of c) H) cap → get_or s.capacities c None ≡ cap
    → seen_from (capacity_in c) t s H ≡ replicate (length (seen_from (capacity_in c) t s H)) cap
all_same t c cap [] s stays has = refl
all_same t c cap (Put p d v ∷ H) s stays has =
    one_more_same (eqb d c) (get_or s.capacities d None) cap (seen_from (capacity_in c) t (clocks_with_event t s (Put p d v)) H)
    (λ is. subst (λ x. get_or s.capacities x None ≡ cap) (sym (eqb-true d c is)) has)
    (all_same t c cap H (clocks_with_event t s (Put p d v)) (rest_stays false (list_any (is_growth_of c) H) cap stays) has)
all_same t c cap (e ∷ H) s stays has =
    all_same t c cap H (clocks_with_event t s e) (rest_stays (is_growth_of c e) (list_any (is_growth_of c) H) cap stays)
    (capacity_stays t s c cap e (first_stays (is_growth_of c e) (list_any (is_growth_of c) H) cap stays) has)

-- ---- how many puts

no_put : (t : Tables) (c : ℕ) → ((q : ℕ) → writer_of t c ≢ Process q) → (s : Clocks) (e : Event) → IsOwn t e
    → capacity_in c s e ≡ []
no_put t c none s (Put p d v) own =
    ap (λ b. cond b (get_or s.capacities d None ∷ []) [])
    (ne_eqb d c (λ is. none p (subst (λ x. writer_of t x ≡ Process p) is own)))
no_put t c none s e own = refl

no_puts : (t : Tables) → IsNetwork t → (b : Bool) (c : ℕ) → ((q : ℕ) → writer_of t c ≢ Process q) → (H : List Event)
    → Legal t H → capacities_of t b H c ≡ []
no_puts t network b c none =
    by_events t (λ H. capacities_of t b H c ≡ []) refl
    (λ B e legal h.
    let s = clocks_after t b B in
    seen_push (capacity_in c) t b B e ∙ ap (λ xs. xs ++ capacity_in c s e) h
    ∙ no_put t c none s e (IsOwn-last t network B e legal))

as_many : (t : Tables) → IsNetwork t → (b : Bool) (H G : List Event) → Legal t H → Legal t G
    → ((p : ℕ) → talk_of H p ≡ talk_of G p) → (c : ℕ)
    → length (capacities_of t b H c) ≡ length (capacities_of t b G c)
as_many t network b H G legal other talks c = by_writer (writer_of t c) refl
  where
    from_outside : ((q : ℕ) → writer_of t c ≢ Process q)
        → length (capacities_of t b H c) ≡ length (capacities_of t b G c)
    from_outside none = ap length (no_puts t network b c none H legal ∙ sym (no_puts t network b c none G other))

    by_writer : (end : End) → writer_of t c ≡ end
        → length (capacities_of t b H c) ≡ length (capacities_of t b G c)
    by_writer (Process p) is =
        capacities_counted t network b c p is H legal ∙ ap length (written_on-put t network c p is H legal)
        ∙ ap (λ talk. length (put_at talk c)) (talks p)
        ∙ sym (capacities_counted t network b c p is G other ∙ ap length (written_on-put t network c p is G other))
    by_writer Source is = from_outside (not_source (writer_of t c) is)
    by_writer Sink is = from_outside (not_sink (writer_of t c) is)

-- ---- two histories

same_capacities : (t : Tables) → IsNetwork t → (b : Bool) (H G : List Event) → Legal t H → Legal t G
    → ((p : ℕ) → talk_of H p ≡ talk_of G p) → (c : ℕ) (cap : Option ℕ) → get_or (start t b).capacities c None ≡ cap
    → Stays (list_any (is_growth_of c) H) cap → Stays (list_any (is_growth_of c) G) cap
    → capacities_of t b H c ≡ capacities_of t b G c
same_capacities t network b H G legal other talks c cap has here there =
    all_same t c cap H (start t b) here has
    ∙ ap (λ n. replicate n cap) (as_many t network b H G legal other talks c)
    ∙ sym (all_same t c cap G (start t b) there has)

-- without capacities
pub differ_without : (t : Tables) → IsNetwork t → (H G : List Event) → Legal t H → Legal t G
    → ((p : ℕ) → talk_of H p ≡ talk_of G p) → DifferBySchedule t false H G
differ_without t network H G legal other talks =
    record {
      talks = talks;
      capacities = λ c.
          same_capacities t network false H G legal other talks c None (all_alike None (length t.channels) c) (inr refl)
          (inr refl);
    }

-- without growth
pub differ_unchanged : (t : Tables) → IsNetwork t → (b : Bool) (H G : List Event) → Legal t H → Legal t G
    → ((p : ℕ) → talk_of H p ≡ talk_of G p) → GrowsNothing H → GrowsNothing G → DifferBySchedule t b H G
differ_unchanged t network b H G legal other talks here there =
    record {
      talks = talks;
      capacities = λ c.
          same_capacities t network b H G legal other talks c (get_or (start t b).capacities c None) refl
          (inl (here c)) (inl (there c));
    }
