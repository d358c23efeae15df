-- What the code keeps of the ends of the channels while it goes through the ports.
use Rattle.kpn_net.proofs.Common.{◌≡◌, ℕ, zero, suc, ◌+◌, ◌<◌, ◌≤◌, cond, Bool, true, false, not, eqb, ltb, List, [], ◌∷◌, ◌++◌, length, get_or, set, map, take, replicate, Option, Some, None, refl, sym, ap, ◌∙◌, subst, inl, inr, arith, eq-eqb, lt-ltb, le-ltb, get_or-set_same, get_or-set_other, append_assoc, length-set, add-zero, range_with_len, position, position_or_len, append-nil, take_more, take_all, get_or-take, get_or-replicate, length-replicate, length-take, get_or_default, get_or-map, length-map, fill_by_all, get_or-map-range_with_len, length-map-range_with_len, cases_eq, cases_lt, ne_eqb, nat_tests, Parts, IsProgram, NetFault, NoWriter, TwoWriters, NoReader, TwoReaders, Capacity, Instance, Process, Source, Sink, Tables, ends_among, ends_from, channel_at, is_source, is_sink, writers_of, readers_of, is_none, are_several, channel_numbers, wrong_capacity, first_at, channels_fault, side_of, side_with, is_nobody, is_several, end_or, Keeps}
use Rattle.kpn_net.specs.declared.tables.End.{End}
use Rattle.kpn_net.specs.declared.network.sides.Side.{Side}
use Rattle.kpn_net.specs.declared.network.sides.Side.TheVariants.{Nobody, One}
use Rattle.kpn_net.proofs.Networks.{fails_at}

pub joined-side_of : (ends : List End) (end : End) → side_with (side_of ends) end ≡ side_of (ends ++ end ∷ [])
joined-side_of [] end = refl
joined-side_of (a ∷ []) end = refl
joined-side_of (a ∷ b ∷ ends) end = refl

-- the side of a channel
pub Keeps-at : (sides : List Side) (ends : ℕ → List End) → Keeps sides ends → (c : ℕ) → c < length sides
    → get_or sides c Nobody ≡ side_of (ends c)
Keeps-at sides ends k c h =
    ap (λ xs. get_or xs c Nobody) k.each
    ∙ get_or-map-range_with_len (λ d. side_of (ends d)) 0 (length sides) c c Nobody h (omega arith)

pub Keeps-from : (sides : List Side) (ends : ℕ → List End)
    → ((c : ℕ) → c < length sides → get_or sides c Nobody ≡ side_of (ends c)) → Keeps sides ends
Keeps-from sides ends h =
    record { each = fill_by_all (λ c. side_of (ends c)) sides (length sides) Nobody refl h }

pub Keeps-same : (sides : List Side) (ends others : ℕ → List End) → ((c : ℕ) → ends c ≡ others c) → Keeps sides ends
    → Keeps sides others
Keeps-same sides ends others e k =
    Keeps-from sides others (λ c h. Keeps-at sides ends k c h ∙ ap side_of (e c))

-- one place more
pub Keeps-set : (sides : List Side) (ends : ℕ → List End) → Keeps sides ends → (c p : ℕ) → c < length sides
    → Keeps (set sides c (side_with (get_or sides c Nobody) (Process p))) (λ d. ends d ++ ends_among d p (c ∷ []))
Keeps-set sides ends k c p h =
    Keeps-from _ _
    (λ d below. elim (cases_eq d c) [
      | inl same ↦
          rw same (
          get_or-set_same sides c _ Nobody h
          ∙ ap (λ s. side_with s (Process p)) (Keeps-at sides ends k c h)
          ∙ joined-side_of (ends c) (Process p)
          ∙ ap (λ b. side_of (ends c ++ cond b (Process p ∷ []) [])) (sym (eq-eqb c c refl)))
      | inr differ ↦
          get_or-set_other sides c d _ Nobody differ
          ∙ Keeps-at sides ends k d (omega (arith, length-set sides c (side_with (get_or sides c Nobody) (Process p))))
          ∙ ap side_of (sym (append-nil (ends d)))
          ∙ ap (λ b. side_of (ends d ++ cond b (Process p ∷ []) [])) (sym (ne_eqb c d (λ e. differ (sym e))))
    ])

pub places-append : (c p : ℕ) (xs ys : List ℕ) → ends_among c p (xs ++ ys) ≡ ends_among c p xs ++ ends_among c p ys
places-append c p [] ys = refl
places-append c p (d ∷ xs) ys = which (eqb d c) (places-append c p xs ys)
  where
    which : (b : Bool) → ends_among c p (xs ++ ys) ≡ ends_among c p xs ++ ends_among c p ys
        → cond b (Process p ∷ ends_among c p (xs ++ ys)) (ends_among c p (xs ++ ys))
        ≡ cond b (Process p ∷ ends_among c p xs) (ends_among c p xs) ++ ends_among c p ys
    which true e = ap (λ ends. Process p ∷ ends) e
    which false e = e

-- a port more
pub Keeps-port : (sides : List Side) (ends : ℕ → List End) (ports : List ℕ) (i c p : ℕ)
    → Keeps sides (λ d. ends d ++ ends_among d p (take i ports)) → i < length ports → c ≡ get_or ports i c
    → c < length sides
    → Keeps (set sides c (side_with (get_or sides c Nobody) (Process p)))
    (λ d. ends d ++ ends_among d p (take (i + 1) ports))
Keeps-port sides ends ports i c p k h e below =
    Keeps-same _ _ _
    (λ d.
    append_assoc (ends d) (ends_among d p (take i ports)) (ends_among d p (c ∷ []))
    ∙ ap (λ more. ends d ++ more) (sym (places-append d p (take i ports) (c ∷ [])))
    ∙ ap (λ xs. ends d ++ ends_among d p xs) (ap (λ x. take i ports ++ x ∷ []) e ∙ sym (take_more ports i c h)))
    (Keeps-set sides _ k c p below)

-- the same of the side that was made from the one that was read
pub Keeps-joined : (sides : List Side) (ends : ℕ → List End) (ports : List ℕ) (i p : ℕ) (side other : Side)
    → Keeps sides (λ d. ends d ++ ends_among d p (take i ports)) → i < length ports → get_or ports i 0 < length sides
    → side ≡ side_with (get_or sides (get_or ports i 0) other) (Process p)
    → Keeps (set sides (get_or ports i 0) side) (λ d. ends d ++ ends_among d p (take (i + 1) ports))
Keeps-joined sides ends ports i p side other k h below e =
    let c = get_or ports i 0 in
    let read : side ≡ side_with (get_or sides c Nobody) (Process p) =
    e ∙ ap (λ s. side_with s (Process p)) (get_or_default sides c other Nobody below) in
    rw read (Keeps-port sides ends ports i c p k h (get_or_default ports i 0 c h) below)

-- ---- the caller's ends

-- the tables with only the first instances
abbrev pub first_instances : ℕ → Tables → Tables
first_instances p t = record t { instances = take p t.instances }

-- the caller's ends at the first channels
abbrev pub outside_writers : Tables → (n c : ℕ) → List End
outside_writers t n c = cond (ltb c n) (cond (is_source (channel_at t c)) (Source ∷ []) []) []

abbrev pub outside_readers : Tables → (n c : ℕ) → List End
outside_readers t n c = cond (ltb c n) (cond (is_sink (channel_at t c)) (Sink ∷ []) []) []

-- ---- the first channel with no end, and with several

position_or_len-both : {X Y Z : Type 0} (p : X → Bool) (f : Z → X) (q : Y → Bool) (g : Z → Y)
    → ((z : Z) → p (f z) ≡ q (g z)) → (zs : List Z) → position_or_len p (map f zs) ≡ position_or_len q (map g zs)
position_or_len-both p f q g e [] = refl
position_or_len-both p f q g e (z ∷ zs) =
    let rest = position_or_len-both p f q g e zs in
    ap (λ b. cond (not b) (1 + position_or_len p (map f zs)) 0) (e z)
    ∙ ap (λ n. cond (not (q (g z))) (1 + n) 0) rest

position-both : {X Y Z : Type 0} (p : X → Bool) (f : Z → X) (q : Y → Bool) (g : Z → Y) → ((z : Z) → p (f z) ≡ q (g z))
    → (zs : List Z) → position p (map f zs) ≡ position q (map g zs)
position-both p f q g e zs =
    let ends_among = position_or_len-both p f q g e zs in
    let lengths = length-map zs f ∙ sym (length-map zs g) in
    ap (λ n. cond (ltb n (length (map f zs))) (Some n) None) ends_among
    ∙ ap (λ n. cond (ltb (position_or_len q (map g zs)) n) (Some (position_or_len q (map g zs))) None) lengths

is_nobody-side_of : (ends : List End) → is_nobody (side_of ends) ≡ is_none ends
is_nobody-side_of [] = refl
is_nobody-side_of (a ∷ []) = refl
is_nobody-side_of (a ∷ b ∷ ends) = refl

is_several-side_of : (ends : List End) → is_several (side_of ends) ≡ are_several ends
is_several-side_of [] = refl
is_several-side_of (a ∷ []) = refl
is_several-side_of (a ∷ b ∷ ends) = refl

pub position-is_nobody : (sides : List Side) (ends : ℕ → List End) (n : ℕ) → Keeps sides ends → length sides ≡ n
    → position is_nobody sides ≡ position is_none (map ends (range_with_len 0 n))
position-is_nobody sides ends n k e =
    ap (position is_nobody) (k.each ∙ ap (λ m. map (λ c. side_of (ends c)) (range_with_len 0 m)) e)
    ∙ position-both is_nobody (λ c. side_of (ends c)) is_none ends (λ c. is_nobody-side_of (ends c))
    (range_with_len 0 n)

pub position-is_several : (sides : List Side) (ends : ℕ → List End) (n : ℕ) → Keeps sides ends → length sides ≡ n
    → position is_several sides ≡ position are_several (map ends (range_with_len 0 n))
position-is_several sides ends n k e =
    ap (position is_several) (k.each ∙ ap (λ m. map (λ c. side_of (ends c)) (range_with_len 0 m)) e)
    ∙ position-both is_several (λ c. side_of (ends c)) are_several ends (λ c. is_several-side_of (ends c))
    (range_with_len 0 n)

-- the first of five faults, by the numbers that were found
abbrev pub first_of_five : (unwritten written read_by_none read capacity : Option ℕ) → Option NetFault
first_of_five unwritten written read_by_none read capacity =
    first_at unwritten NoWriter
    (first_at written TwoWriters
    (first_at read_by_none NoReader (first_at read TwoReaders (first_at capacity Capacity None))))

-- the first rule that the channels break, from their sides
abbrev pub sides_fault : Tables → (writers readers : List Side) → Option NetFault
sides_fault t writers readers =
    first_of_five (position is_nobody writers) (position is_several writers) (position is_nobody readers)
    (position is_several readers) (wrong_capacity t)

pub from_sides : (t : Tables) (writers readers : List Side) → Keeps writers (writers_of t)
    → Keeps readers (readers_of t) → length writers ≡ length t.channels → length readers ≡ length t.channels
    → (found : Option NetFault) → found ≡ sides_fault t writers readers → found ≡ channels_fault t
from_sides t writers readers w r wn rn found e =
    e
    ∙ ap
    (λ o.
    first_of_five o (position is_several writers) (position is_nobody readers) (position is_several readers)
    (wrong_capacity t)) (position-is_nobody writers (writers_of t) _ w wn)
    ∙ ap
    (λ o.
    first_of_five (position is_none (map (writers_of t) (channel_numbers t))) o (position is_nobody readers)
    (position is_several readers) (wrong_capacity t)) (position-is_several writers (writers_of t) _ w wn)
    ∙ ap
    (λ o.
    first_of_five (position is_none (map (writers_of t) (channel_numbers t)))
    (position are_several (map (writers_of t) (channel_numbers t))) o (position is_several readers)
    (wrong_capacity t)) (position-is_nobody readers (readers_of t) _ r rn)
    ∙ ap
    (λ o.
    first_of_five (position is_none (map (writers_of t) (channel_numbers t)))
    (position are_several (map (writers_of t) (channel_numbers t)))
    (position is_none (map (readers_of t) (channel_numbers t))) o (wrong_capacity t))
    (position-is_several readers (readers_of t) _ r rn)

-- ---- the instances, one after another

ends_from-more : (ports : Instance → List ℕ) (c p i : ℕ) (instances : List Instance) (d : Instance)
    → i < length instances
    → ends_from ports c p (take (suc i) instances)
    ≡ ends_from ports c p (take i instances) ++ ends_among c (p + i) (ports (get_or instances i d))
ends_from-more ports c p i [] d h = absurd (omega arith)
ends_from-more ports c p zero (x ∷ instances) d h =
    append-nil (ends_among c p (ports x)) ∙ ap (λ q. ends_among c q (ports x)) (sym (add-zero p))
ends_from-more ports c p (suc i) (x ∷ instances) d h =
    ap (λ ends. ends_among c p (ports x) ++ ends) (ends_from-more ports c (suc p) i instances d (omega arith))
    ∙ sym
    (append_assoc (ends_among c p (ports x)) (ends_from ports c (suc p) (take i instances))
    (ends_among c (suc p + i) (ports (get_or instances i d))))
    ∙ ap
    (λ q.
    (ends_among c p (ports x) ++ ends_from ports c (suc p) (take i instances))
    ++ ends_among c q (ports (get_or instances i d))) (let e : suc p + i ≡ p + suc i = omega arith in e)

pub writers_of-more : (t : Tables) (i c : ℕ) (x : Instance) → i < length t.instances → x ≡ get_or t.instances i x
    → writers_of (first_instances i t) c ++ ends_among c i x.outs ≡ writers_of (first_instances (i + 1) t) c
writers_of-more t i c x h e =
    let outside = cond (is_source (channel_at t c)) (Source ∷ []) [] in
    append_assoc outside (ends_from (λ y. y.outs) c 0 (take i t.instances)) (ends_among c i x.outs)
    ∙ ap (λ ends. outside ++ ends)
    (ap (λ y. ends_from (λ y. y.outs) c 0 (take i t.instances) ++ ends_among c i y.outs) e
    ∙ ap (λ q. ends_from (λ y. y.outs) c 0 (take i t.instances) ++ ends_among c q (get_or t.instances i x).outs)
    (let z : i ≡ 0 + i = omega arith in z)
    ∙ sym (ends_from-more (λ y. y.outs) c 0 i t.instances x h)
    ∙ ap (λ n. ends_from (λ y. y.outs) c 0 (take n t.instances)) (let z : suc i ≡ i + 1 = omega arith in z))

pub readers_of-more : (t : Tables) (i c : ℕ) (x : Instance) → i < length t.instances → x ≡ get_or t.instances i x
    → readers_of (first_instances i t) c ++ ends_among c i x.ins ≡ readers_of (first_instances (i + 1) t) c
readers_of-more t i c x h e =
    let outside = cond (is_sink (channel_at t c)) (Sink ∷ []) [] in
    append_assoc outside (ends_from (λ y. y.ins) c 0 (take i t.instances)) (ends_among c i x.ins)
    ∙ ap (λ ends. outside ++ ends)
    (ap (λ y. ends_from (λ y. y.ins) c 0 (take i t.instances) ++ ends_among c i y.ins) e
    ∙ ap (λ q. ends_from (λ y. y.ins) c 0 (take i t.instances) ++ ends_among c q (get_or t.instances i x).ins)
    (let z : i ≡ 0 + i = omega arith in z)
    ∙ sym (ends_from-more (λ y. y.ins) c 0 i t.instances x h)
    ∙ ap (λ n. ends_from (λ y. y.ins) c 0 (take n t.instances)) (let z : suc i ≡ i + 1 = omega arith in z))

-- ---- the caller

-- the first channels with one more
ltb-more_other : (c i : ℕ) → (c ≡ i → ⊥) → ltb c (i + 1) ≡ ltb c i
ltb-more_other c i h = grind (arith, nat_tests)

pub Keeps-outside : (sides : List Side) (ends : ℕ → List End) (i : ℕ) → Keeps sides (λ c. cond (ltb c i) (ends c) [])
    → (next : List Side) → length next ≡ length sides → (i < length sides → get_or next i Nobody ≡ side_of (ends i))
    → ((c : ℕ) → (c ≡ i → ⊥) → get_or next c Nobody ≡ get_or sides c Nobody)
    → Keeps next (λ c. cond (ltb c (i + 1)) (ends c) [])
Keeps-outside sides ends i k next e at others =
    Keeps-from next _
    (λ c h. elim (cases_eq c i) [
      | inl same ↦ rw same
          (at (omega arith) ∙ ap (λ b. side_of (cond b (ends i) [])) (sym (lt-ltb i (i + 1) (omega arith))))
      | inr differ ↦ others c differ ∙ Keeps-at sides _ k c (omega arith)
          ∙ ap (λ b. side_of (cond b (ends c) [])) (sym (ltb-more_other c i differ))
    ])

-- ---- programs that are known, one after another

pub known_more : (programs : List Parts) (i : ℕ) (program : Parts) → i < length programs
    → program ≡ get_or programs i program → ((k : ℕ) (d : Parts) → k < i → IsProgram (get_or programs k d))
    → IsProgram program → (k : ℕ) (d : Parts) → k < i + 1 → IsProgram (get_or programs k d)
known_more programs i program below is before here k d h =
    elim (cases_lt k i) [
      | inl less ↦ before k d less
      | inr more ↦
          let same : k ≡ i = omega arith in
          rw same (subst IsProgram (is ∙ get_or_default programs i program d below) here)
    ]

pub Keeps-outside_none : (sides : List Side) (ends : ℕ → List End) (i : ℕ)
    → Keeps sides (λ c. cond (ltb c i) (ends c) []) → ends i ≡ []
    → Keeps sides (λ c. cond (ltb c (i + 1)) (ends c) [])
Keeps-outside_none sides ends i k e =
    Keeps-outside sides ends i k sides refl
    (λ h. Keeps-at sides _ k i h
    ∙ ap (λ b. side_of (cond b (ends i) [])) (le-ltb i i (omega arith)) ∙ ap side_of (sym e))
    (λ c differ. refl)

pub Keeps-outside_one : (sides : List Side) (ends : ℕ → List End) (i : ℕ) (end : End)
    → Keeps sides (λ c. cond (ltb c i) (ends c) []) → ends i ≡ end ∷ []
    → Keeps (set sides i (One end)) (λ c. cond (ltb c (i + 1)) (ends c) [])
Keeps-outside_one sides ends i end k e =
    Keeps-outside sides ends i k (set sides i (One end)) (length-set sides i (One end))
    (λ h. get_or-set_same sides i (One end) Nobody h ∙ ap side_of (sym e))
    (λ c differ. get_or-set_other sides i c (One end) Nobody differ)

pub all_instances : (t : Tables) (p : ℕ) → length t.instances ≤ p → first_instances p t ≡ t
all_instances t p h = ap (λ xs. record t { instances = xs }) (take_all p t.instances h)

-- ---- the ends that are kept

end_or-side_of : (other : End) (ends : List End) → are_several ends ≡ false
    → end_or other (side_of ends) ≡ get_or ends 0 other
end_or-side_of other [] e = refl
end_or-side_of other (a ∷ []) e = refl
end_or-side_of other (a ∷ b ∷ ends) e = absurd cc

-- the one end of each channel
pub ends-kept : (other : End) (sides : List Side) (ends : ℕ → List End) (n : ℕ) → Keeps sides ends → length sides ≡ n
    → position are_several (map ends (range_with_len 0 n)) ≡ None
    → map (end_or other) sides ≡ map (λ c. get_or (ends c) 0 other) (range_with_len 0 n)
ends-kept other sides ends n k e once =
    fill_by_all (λ c. get_or (ends c) 0 other) (map (end_or other) sides) n other
    (length-map sides (end_or other) ∙ e)
    (λ c below.
    let here : c < length sides = omega arith in
    get_or-map (end_or other) sides c Nobody other here
    ∙ ap (end_or other) (Keeps-at sides ends k c here)
    ∙ end_or-side_of other (ends c)
    (ap are_several (sym (get_or-map-range_with_len ends 0 n c c [] below (omega arith)))
    ∙ fails_at are_several (map ends (range_with_len 0 n)) once c [] (rw length-map-range_with_len below)))

-- the end of a channel among those that are kept
pub length-kept : (t : Tables) (f : ℕ → End) (ends : List End) → ends ≡ map f (channel_numbers t)
    → length ends ≡ length t.channels
length-kept t f ends e = ap length e ∙ length-map-range_with_len f 0 (length t.channels)

pub kept_at : (t : Tables) (f : ℕ → End) (ends : List End) → ends ≡ map f (channel_numbers t) → (c : ℕ) (d : End)
    → c < length t.channels → get_or ends c d ≡ f c
kept_at t f ends e c d h =
    ap (λ xs. get_or xs c d) e ∙ get_or-map-range_with_len f 0 (length t.channels) c c d h (omega arith)

-- A network keeps an end for each channel, so there is one with this number, and it is that of the tables that
-- contracts see.
pub end_is_there : (t now : Tables) → t ≡ now → (f : Tables → ℕ → End) (ends : List End)
    → ends ≡ map (f t) (channel_numbers t) → (c : ℕ) → c < length now.channels → c < length ends
end_is_there t now seen f ends e c h =
    let below : c < length t.channels = subst (λ (u : Tables). c < length u.channels) (sym seen) h in
    omega (arith, length-kept t (f t) ends e)

pub end_is : (t now : Tables) → t ≡ now → (f : Tables → ℕ → End) (ends : List End)
    → ends ≡ map (f t) (channel_numbers t) → (c : ℕ) (d : End) → c < length now.channels → get_or ends c d ≡ f now c
end_is t now seen f ends e c d h =
    let below : c < length t.channels = subst (λ (u : Tables). c < length u.channels) (sym seen) h in
    kept_at t (f t) ends e c d below ∙ ap (λ u. f u c) seen

-- sides that are fresh
pub Keeps-nobody : (n m : ℕ) → n ≤ m → Keeps (take n (replicate m Nobody)) (λ c. [])
Keeps-nobody n m h =
    Keeps-from (take n (replicate m Nobody)) (λ c. [])
    (λ c below.
    let short : c < n = omega (arith, length-take n (replicate m Nobody)) in
    get_or-take n (replicate m Nobody) c Nobody short ∙ get_or-replicate m c Nobody Nobody (omega arith))

-- the sides of channels without ends
pub Keeps-fresh : (n : ℕ) (sides : List Side) → sides ≡ replicate n Nobody → Keeps sides (λ c. [])
Keeps-fresh n sides e =
    subst (λ (xs : List Side). Keeps xs (λ c. [])) (sym e)
    (Keeps-from (replicate n Nobody) (λ c. [])
    (λ c below. get_or-replicate n c Nobody Nobody (let l = length-replicate n Nobody in omega (arith, l, below))))

pub length-fresh : (n m : ℕ) → n ≤ m → length (take n (replicate m Nobody)) ≡ n
length-fresh n m h = let long = length-replicate m Nobody in omega (arith, length-take n (replicate m Nobody))
