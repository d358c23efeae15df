-- Where one history comes to what another one has come to.
use Rattle.kpn_ticks.proofs.Common.{◌≡◌, ℕ, zero, suc, ◌+◌, ◌-◌, ◌<◌, ◌≤◌, Bool, true, false, nat_lt, cond, eqb, List, [], ◌∷◌, ◌++◌, length, get_or, Option, Some, None, refl, sym, ap, ◌∙◌, inl, inr, arith, flat_map, cases_lt, ltb-false, eqb-true, get_or_past, Said, IsPrefix, Event, said_in, room_there}
use Rattle.kpn_lang.specs.declared.talk.Said.TheVariants as said
use Rattle.kpn_history.specs.declared.event.Event.TheVariants as event
use Rattle.kpn_ticks.proofs.Exchanging.{either}

-- ---- beginnings of one list

-- of beginnings of one list those of one length are the same
pub same_beginning : {A : Type 0} (xs ys zs : List A) → IsPrefix xs zs → IsPrefix ys zs → length xs ≡ length ys
    → xs ≡ ys
same_beginning [] [] zs p q e = refl
same_beginning [] (y ∷ ys) zs p q e = absurd (omega arith)
same_beginning (x ∷ xs) [] zs p q e = absurd (omega arith)
same_beginning (x ∷ xs) (y ∷ ys) [] p q e = absurd p
same_beginning (x ∷ xs) (y ∷ ys) (z ∷ zs) p q e =
    let a = p.0 in let b = q.0 in let r = same_beginning xs ys zs p.1 q.1 (omega arith) in cc

pub same_next : {A : Type 0} (xs ys zs : List A) (x y : A) → IsPrefix (xs ++ x ∷ []) zs → IsPrefix (ys ++ y ∷ []) zs
    → length xs ≡ length ys → x ≡ y
same_next xs ys [] x y p q e = absurd (none xs x p)
  where
    none : {A : Type 0} (xs : List A) (x : A) → IsPrefix (xs ++ x ∷ []) [] → ⊥
    none [] x p = p
    none (y ∷ ys) x p = p
same_next [] [] (z ∷ zs) x y p q e = p.0 ∙ sym q.0
same_next [] (b ∷ ys) (z ∷ zs) x y p q e = absurd (omega arith)
same_next (a ∷ xs) [] (z ∷ zs) x y p q e = absurd (omega arith)
same_next (a ∷ xs) (b ∷ ys) (z ∷ zs) x y p q e = same_next xs ys zs x y p.1 q.1 (omega arith)

-- an element of a beginning
pub at_beginning : (xs zs : List ℕ) (k d : ℕ) → IsPrefix xs zs → k < length xs → get_or xs k d ≡ get_or zs k 0
at_beginning [] zs k d p below = absurd (omega arith)
at_beginning (x ∷ xs) [] k d p below = absurd p
at_beginning (x ∷ xs) (z ∷ zs) zero d p below = p.0
at_beginning (x ∷ xs) (z ∷ zs) (suc k) d p below = at_beginning xs zs k d p.1 (omega arith)

-- ---- a list that events make

-- it goes on by this element after some beginning of the events
pub record GoesOn {A : Type 0} (say : Event → List A) (xs : List A) (a : A) (G : List Event) : Type 0 where
  pub before : List Event
  pub event : Event
  pub there : IsPrefix (before ++ event ∷ []) G
  pub so_far : flat_map say before ≡ xs
  pub says : say event ≡ a ∷ []

-- the first event makes these, and the rest of the list comes from the others
goes_on_from : {A : Type 0} (say : Event → List A) (e : Event) (G : List Event) (made : List A) → say e ≡ made
    → length made ≤ 1 → ((ys : List A) (a : A) → IsPrefix (ys ++ a ∷ []) (flat_map say G) → GoesOn say ys a G)
    → (xs : List A) (a : A) → IsPrefix (xs ++ a ∷ []) (made ++ flat_map say G) → GoesOn say xs a (e ∷ G)
goes_on_from say e G [] is few more xs a p =
    let r = more xs a p in
    record {
      before = e ∷ r.before;
      event = r.event;
      there = (refl, r.there);
      so_far = ap (λ ys. ys ++ flat_map say r.before) is ∙ r.so_far;
      says = r.says;
    }
goes_on_from say e G (x ∷ []) is few more [] a p =
    record { before = []; event = e; there = (refl, tt); so_far = refl; says = is ∙ ap (λ y. y ∷ []) (sym p.0) }
goes_on_from say e G (x ∷ []) is few more (y ∷ ys) a p =
    let r = more ys a p.1 in
    record {
      before = e ∷ r.before;
      event = r.event;
      there = (refl, r.there);
      so_far =
          ap (λ zs. zs ++ flat_map say r.before) is ∙ ap (λ zs. x ∷ zs) r.so_far ∙ ap (λ z. z ∷ ys) (sym p.0);
      says = r.says;
    }
goes_on_from say e G (x ∷ y ∷ made) is few more xs a p = absurd (omega arith)

pub goes_on : {A : Type 0} (say : Event → List A) → ((e : Event) → length (say e) ≤ 1) → (G : List Event)
    → (xs : List A) (a : A) → IsPrefix (xs ++ a ∷ []) (flat_map say G) → GoesOn say xs a G
goes_on say few [] [] a p = absurd p
goes_on say few [] (x ∷ xs) a p = absurd p
goes_on say few (e ∷ G) xs a p =
    goes_on_from say e G (say e) refl (few e) (λ ys b q. goes_on say few G ys b q) xs a p

-- ---- what a process says

one_at_most : (b : Bool) (spoken : Said) → length (cond b (spoken ∷ []) []) ≤ 1
one_at_most true spoken = omega arith
one_at_most false spoken = omega arith

pub says_one : (p : ℕ) (e : Event) → length (said_in p e) ≤ 1
says_one p (event.Get q c v) = one_at_most (eqb q p) (said.Got c v)
says_one p (event.Put q c v) = one_at_most (eqb q p) (said.Put c v)
says_one p e = omega arith

-- the event by which a process says this
abbrev pub event_of : (p : ℕ) → Said → Event
event_of p (said.Got c v) = event.Get p c v
event_of p (said.Put c v) = event.Put p c v

said_if : (b : Bool) (made spoken : Said) → cond b (made ∷ []) [] ≡ spoken ∷ [] → (b ≡ true) × (made ≡ spoken)
said_if true made spoken is = (refl, cc)
said_if false made spoken is = absurd cc

-- it is the only one
pub one_event : (p : ℕ) (e : Event) (spoken : Said) → said_in p e ≡ spoken ∷ [] → e ≡ event_of p spoken
one_event p (event.Get q c v) spoken is =
    let h = said_if (eqb q p) (said.Got c v) spoken is in
    ap (λ x. event.Get x c v) (eqb-true q p h.0) ∙ ap (event_of p) h.1
one_event p (event.Put q c v) spoken is =
    let h = said_if (eqb q p) (said.Put c v) spoken is in
    ap (λ x. event.Put x c v) (eqb-true q p h.0) ∙ ap (event_of p) h.1
one_event p e spoken is = absurd cc

-- ---- room

-- where these lists of ticks of reads begin one list. If the one has none that makes room, nothing more was to be read,
-- and the readers ended alike
pub same_room : (cap : Option ℕ) (written read other whole : List ℕ) (x y : ℕ) → IsPrefix read whole
    → IsPrefix other whole
    → ((k : ℕ) → cap ≡ Some k → k + length read ≤ length written → length other ≤ length read)
    → ((k : ℕ) → cap ≡ Some k → k + length other ≤ length written → length read ≤ length other)
    → ((k : ℕ) → cap ≡ Some k → k + length read ≤ length written → k + length other ≤ length written → x ≡ y)
    → room_there cap written read x ≡ room_there cap written other y
same_room None written read other whole x y p q all_read all_other alike = refl
same_room (Some cap) written read other whole x y p q all_read all_other alike =
    let k = length written - cap in
    either (nat_lt (length written) cap) (get_or read k x) (get_or other k y)
    (λ full.
    let above = ltb-false (length written) cap full in
    elim (cases_lt k (length read)) [
      | inl here ↦ elim (cases_lt k (length other)) [
        | inl there ↦ at_beginning read whole k x p here ∙ sym (at_beginning other whole k y q there)
        | inr out ↦ let few = all_other cap refl (omega (arith, above, out)) in absurd (omega (arith, few, here, out))
      ]
      | inr past ↦ elim (cases_lt k (length other)) [
        | inl there ↦
            let few = all_read cap refl (omega (arith, above, past)) in absurd (omega (arith, few, there, past))
        | inr out ↦
            get_or_past read k x past
            ∙ alike cap refl (omega (arith, above, past)) (omega (arith, above, out))
            ∙ sym (get_or_past other k y out)
      ]
    ])
