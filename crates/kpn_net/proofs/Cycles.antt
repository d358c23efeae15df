-- Cycles of waiting processes and their smallest full channels. There is at most one cycle through a process, it is one
-- from each of its members, and it has no more members than there are processes. All of this follows from the
-- definitions only.
use Rattle.kpn_net.proofs.Common.{◌≡◌, ℕ, zero, suc, ◌<◌, ◌≤◌, ◌⊎◌, false, eqb, List, [], ◌∷◌, ◌++◌, length, Option, Some, None, refl, sym, ap, ◌∙◌, subst, inl, inr, arith, length-append, Contains, eqb-true, ne_eqb, cases_lt, Wait, Process, Source, Sink, Tables, writer_of, reader_of, wait_at, process_at, awaited, full_channel, WaitsFor, WaitInTurn, AreDistinct, IsCycle, full_channels, IsSmallest}
use Rattle.std.specs.List.{AllByRecursion, IsDistinct, cons_option}
use Rattle.std.specs.List.Sorted.{IsPermutation}
use Rattle.std.proofs.lemmas.List.Elements.{filter_map-append, Contains-append_left, Contains-append_right, Contains-push_cases}
use Rattle.std.proofs.lemmas.List.Sorted.{IsPermutation-append_comm, IsPermutation-refl, IsPermutation-sym, Contains-permutation}
use Rattle.std.proofs.lemmas.Map.Steps.{length-le_from_distinct_below}
use Rattle.std.proofs.lemmas.Map.Views.{Contains-from_any}
use Rattle.kpn_net.specs.declared.wait.Wait.TheVariants.{Nobody, Empty, Full}
use Rattle.kpn_net.specs.declared.tables.End.{End}
use Rattle.kpn_net.proofs.Networks.{Writes-writer_of, Reads-reader_of}

-- ---- what a list contains

pub Contains-first : {X : Type 0} (x : X) (xs : List X) → Contains (x ∷ xs) x
Contains-first x xs = (0, omega arith, refl)

pub Contains-later : {X : Type 0} (y : X) (xs : List X) (x : X) → Contains xs x → Contains (y ∷ xs) x
Contains-later y xs x (k, below, e) = (suc k, omega arith, e)

pub Contains-cases : {X : Type 0} (y : X) (xs : List X) (x : X) → Contains (y ∷ xs) x → (y ≡ x) ⊎ Contains xs x
Contains-cases y xs x (zero, below, e) = inl e
Contains-cases y xs x (suc k, below, e) = inr (k, omega arith, e)

pub Contains-none : {X : Type 0} (x : X) → Contains [] x → ⊥
Contains-none x (k, below, e) = omega arith

-- a list, taken apart at an item
pub record ApartAt {X : Type 0} (xs : List X) (x : X) : Type 0 where
  pub before : List X
  pub after : List X
  pub is : xs ≡ before ++ x ∷ after

pub apart_at : {X : Type 0} (xs : List X) (x : X) → Contains xs x → ApartAt xs x
apart_at [] x h = absurd (Contains-none x h)
apart_at (y ∷ xs) x h =
    elim (Contains-cases y xs x h) [
      | inl same ↦ record { before = []; after = xs; is = ap (λ z. z ∷ xs) same }
      | inr later ↦
          let r = apart_at xs x later in
          record { before = y ∷ r.before; after = r.after; is = ap (λ zs. y ∷ zs) r.is }
    ]

-- of distinct numbers none is at two places
pub distinct_apart : (xs : List ℕ) (x : ℕ) (ys : List ℕ) → AreDistinct (xs ++ x ∷ ys) → ¬ Contains (xs ++ ys) x
distinct_apart [] x ys d = d.0
distinct_apart (y ∷ xs) x ys d = λ h.
    elim (Contains-cases y (xs ++ ys) x h) [
      | inl same ↦ d.0 (subst (λ z. Contains (xs ++ x ∷ ys) z) (sym same) (Contains-within xs x ys))
      | inr later ↦ distinct_apart xs x ys d.1 later
    ]
  where
    Contains-within : (us : List ℕ) (v : ℕ) (vs : List ℕ) → Contains (us ++ v ∷ vs) v
    Contains-within [] v vs = Contains-first v vs
    Contains-within (u ∷ us) v vs = Contains-later u (us ++ v ∷ vs) v (Contains-within us v vs)

-- ---- the smallest of channels

pub smallest_unique : (cap : ℕ → ℕ) (channels : List ℕ) (c d : ℕ) → IsSmallest cap channels c
    → IsSmallest cap channels d → c ≡ d
smallest_unique cap channels c d a b =
    elim (a.least d b.among) [
      | inl less ↦ elim (b.least c a.among) [ inl more ↦ absurd (omega arith) | inr tie ↦ absurd (omega arith) ]
      | inr tie ↦ elim (b.least c a.among) [ inl more ↦ absurd (omega arith) | inr other ↦ omega arith ]
    ]

pub smallest_permuted : (cap : ℕ → ℕ) (channels others : List ℕ) (c : ℕ) → IsPermutation channels others
    → IsSmallest cap channels c → IsSmallest cap others c
smallest_permuted cap channels others c moved s =
    record {
      among = Contains-permutation channels others c moved s.among;
      least = λ d h. s.least d (Contains-permutation others channels d (IsPermutation-sym channels others moved) h);
    }

-- a channel is before another, or is the other
abbrev pub IsNoLarger : (cap : ℕ → ℕ) → (c d : ℕ) → Type 0
IsNoLarger cap c d = (cap c < cap d) ⊎ ((cap c ≡ cap d) × (c ≤ d))

no_larger-trans : (cap : ℕ → ℕ) (c d e : ℕ) → IsNoLarger cap c d → IsNoLarger cap d e → IsNoLarger cap c e
no_larger-trans cap c d e (inl a) (inl b) = inl (omega arith)
no_larger-trans cap c d e (inl a) (inr b) = inl (omega arith)
no_larger-trans cap c d e (inr a) (inl b) = inl (omega arith)
no_larger-trans cap c d e (inr a) (inr b) = inr (omega arith, omega arith)

no_larger-either : (cap : ℕ → ℕ) (c d : ℕ) → IsNoLarger cap c d ⊎ IsNoLarger cap d c
no_larger-either cap c d =
    elim (cases_lt (cap c) (cap d)) [
      | inl less ↦ inl (inl less)
      | inr same ↦
          elim (cases_lt (cap d) (cap c)) [
            | inl more ↦ inr (inl more)
            | inr tie ↦ elim (cases_lt c d) [
              | inl first ↦ inl (inr (omega arith, omega arith))
              | inr second ↦ inr (inr (omega arith, omega arith))
            ]
          ]
    ]

-- of one channel it is that one
pub smallest-one : (cap : ℕ → ℕ) (c : ℕ) → IsSmallest cap (c ∷ []) c
smallest-one cap c =
    record {
      among = Contains-first c [];
      least =
          λ d h.
          elim (Contains-cases c [] d h)
          [ inl same ↦ inr (ap cap same, omega arith) | inr none ↦ absurd (Contains-none d none) ];
    }

-- of channels with one more it is the smaller of the smallest so far and that one
pub smallest-push : (cap : ℕ → ℕ) (channels : List ℕ) (c d e : ℕ) → IsSmallest cap channels c
    → IsSmallest cap (c ∷ d ∷ []) e → IsSmallest cap (channels ++ d ∷ []) e
smallest-push cap channels c d e s two =
    record {
      among = elim (Contains-cases c (d ∷ []) e two.among) [
        | inl same ↦ subst (λ z. Contains (channels ++ d ∷ []) z) same
            (Contains-append_left channels (d ∷ []) c s.among)
        | inr later ↦ Contains-append_right channels (d ∷ []) e later
      ];
      least = λ x h. elim (Contains-push_cases channels d x h) [
        | inl old ↦ no_larger-trans cap e c x (two.least c (Contains-first c (d ∷ []))) (s.least x old)
        | inr new ↦ subst (λ z. IsNoLarger cap e z) new
            (two.least d (Contains-later c (d ∷ []) d (Contains-first d [])))
      ];
    }

-- if there are channels, one is the smallest
pub record HasSmallest (cap : ℕ → ℕ) (channels : List ℕ) : Type 0 where
  pub channel : ℕ
  pub is : IsSmallest cap channels channel

pub smallest_is_there : (cap : ℕ → ℕ) (c : ℕ) (channels : List ℕ) → HasSmallest cap (c ∷ channels)
smallest_is_there cap c [] = record { channel = c; is = smallest-one cap c }
smallest_is_there cap c (d ∷ channels) =
    let r = smallest_is_there cap d channels in
    elim (no_larger-either cap c r.channel) [
      | inl less ↦ record {
        channel = c;
        is = record {
          among = Contains-first c (d ∷ channels);
          least = λ x h. elim (Contains-cases c (d ∷ channels) x h) [
            | inl same ↦ inr (ap cap same, omega arith)
            | inr later ↦ no_larger-trans cap c r.channel x less (r.is.least x later)
          ];
        };
      }
      | inr more ↦ record {
        channel = r.channel;
        is = record {
          among = Contains-later c (d ∷ channels) r.channel r.is.among;
          least = λ x h. elim (Contains-cases c (d ∷ channels) x h) [
            | inl same ↦ subst (λ z. IsNoLarger cap r.channel z) same more
            | inr later ↦ r.is.least x later
          ];
        };
      }
    ]

pub smallest_among : (cap : ℕ → ℕ) (channels : List ℕ) (c : ℕ) → Contains channels c → HasSmallest cap channels
smallest_among cap [] c h = absurd (Contains-none c h)
smallest_among cap (d ∷ channels) c h = smallest_is_there cap d channels

-- other capacities that are the same at these channels
pub smallest_with_same_capacities : (cap other : ℕ → ℕ) (channels : List ℕ)
    → ((c : ℕ) → Contains channels c → cap c ≡ other c) → (c : ℕ) → IsSmallest cap channels c
    → IsSmallest other channels c
smallest_with_same_capacities cap other channels same c s =
    let at_c = same c s.among in
    record {
      among = s.among;
      least = λ d h. let at_d =
          same d h in elim (s.least d h) [ inl less ↦ inl (omega arith) | inr tie ↦ inr (omega arith, tie.1) ];
    }

-- ---- full channels

-- a full channel of some processes is that of one of them
pub record IsFullAt (waits : List Wait) (members : List ℕ) (c : ℕ) : Type 0 where
  pub member : ℕ
  pub among : Contains members member
  pub full : full_channel (wait_at waits member) ≡ Some c

IsFullAt-later : (waits : List Wait) (p : ℕ) (members : List ℕ) (c : ℕ) → IsFullAt waits members c
    → IsFullAt waits (p ∷ members) c
IsFullAt-later waits p members c r =
    record { member = r.member; among = Contains-later p members r.member r.among; full = r.full }

pub full_at : (waits : List Wait) (members : List ℕ) (c : ℕ) → Contains (full_channels waits members) c
    → IsFullAt waits members c
full_at waits [] c h = absurd (Contains-none c h)
full_at waits (p ∷ members) c h =
    which (full_channel (wait_at waits p)) refl h (λ k. IsFullAt-later waits p members c (full_at waits members c k))
  where
    which : (o : Option ℕ) → full_channel (wait_at waits p) ≡ o
        → Contains (cons_option o (full_channels waits members)) c
        → (Contains (full_channels waits members) c → IsFullAt waits (p ∷ members) c) → IsFullAt waits (p ∷ members) c
    which None e k later = later k
    which (Some d) e k later =
        elim (Contains-cases d (full_channels waits members) c k) [
          | inl same ↦ record { member = p; among = Contains-first p members; full = e ∙ ap Some same }
          | inr more ↦ later more
        ]

-- ---- distinct numbers

others_differ : (x : ℕ) (xs : List ℕ) → ¬ Contains xs x → AllByRecursion (λ y. eqb x y ≡ false) xs
others_differ x [] h = tt
others_differ x (y ∷ xs) h = (
  ne_eqb x y (λ e. h (subst (λ z. Contains (y ∷ xs) z) (sym e) (Contains-first y xs))),
  others_differ x xs (λ c. h (Contains-later y xs x c)),
)

keys_distinct : (xs : List ℕ) → AreDistinct xs → IsDistinct eqb xs
unfolding IsDistinct
keys_distinct [] d = tt
keys_distinct (x ∷ xs) d = (others_differ x xs d.0, keys_distinct xs d.1)

-- ---- waiting in turn

module _ (t : Tables) (waits : List Wait) where
  pub waits_for_one : (p q r : ℕ) → WaitsFor t waits p q → WaitsFor t waits p r → q ≡ r
  waits_for_one p q r a b = let e = sym a.awaited ∙ b.awaited in cc

  pub turn-append : (p : ℕ) (xs : List ℕ) (r : ℕ) (ys : List ℕ) (q : ℕ) → WaitInTurn t waits p xs r
      → WaitInTurn t waits r ys q → WaitInTurn t waits p (xs ++ r ∷ ys) q
  turn-append p [] r ys q a b = (a, b)
  turn-append p (x ∷ xs) r ys q a b = (a.0, turn-append x xs r ys q a.1 b)

  pub turn-apart : (p : ℕ) (xs : List ℕ) (r : ℕ) (ys : List ℕ) (q : ℕ) → WaitInTurn t waits p (xs ++ r ∷ ys) q
      → WaitInTurn t waits p xs r × WaitInTurn t waits r ys q
  turn-apart p [] r ys q h = h
  turn-apart p (x ∷ xs) r ys q h = let rest = turn-apart x xs r ys q h.1 in ((h.0, rest.0), rest.1)

  -- there is one way from r to the next p
  pub one_way : (r : ℕ) (xs ys : List ℕ) (p : ℕ) → WaitInTurn t waits r xs p → WaitInTurn t waits r ys p
      → ¬ Contains xs p → ¬ Contains ys p → xs ≡ ys
  one_way r [] [] p a b h k = refl
  one_way r [] (y ∷ ys) p a b h k =
      absurd (k (subst (λ z. Contains (y ∷ ys) z) (waits_for_one r y p b.0 a) (Contains-first y ys)))
  one_way r (x ∷ xs) [] p a b h k =
      absurd (h (subst (λ z. Contains (x ∷ xs) z) (waits_for_one r x p a.0 b) (Contains-first x xs)))
  one_way r (x ∷ xs) (y ∷ ys) p a b h k =
      let same = waits_for_one r x y a.0 b.0 in
      let rest =
      one_way x xs ys p a.1 (subst (λ z. WaitInTurn t waits z ys p) (sym same) b.1) (λ c. h (Contains-later x xs p c))
      (λ c. k (Contains-later y ys p c)) in
      ap (λ z. z ∷ xs) same ∙ ap (λ zs. y ∷ zs) rest

  -- there is at most one cycle through a process
  pub cycle_unique : (p : ℕ) (others more : List ℕ) → IsCycle t waits p others → IsCycle t waits p more
      → others ≡ more
  cycle_unique p others more a b = one_way p others more p a.in_turn b.in_turn a.distinct.0 b.distinct.0

  -- on the way to the next p no process comes twice: it would go on from there the same way
  way_is_distinct : (r : ℕ) (xs : List ℕ) (p : ℕ) → WaitInTurn t waits r xs p → ¬ Contains xs p → AreDistinct xs
  way_is_distinct r [] p a h = tt
  way_is_distinct r (x ∷ xs) p a h = (
    λ again.
        let s = apart_at xs x again in
        let onward = subst (λ zs. WaitInTurn t waits x zs p) s.is a.1 in
        let absent : ¬ Contains (s.before ++ x ∷ s.after) p =
        subst (λ zs. ¬ Contains zs p) s.is (λ c. h (Contains-later x xs p c)) in
        let from_second = (turn-apart x s.before x s.after p onward).1 in
        let after_absent : ¬ Contains s.after p =
        λ c. absent (Contains-append_right s.before (x ∷ s.after) p (Contains-later x s.after p c)) in
        let lengths =
        ap length (one_way x (s.before ++ x ∷ s.after) s.after p onward from_second absent after_absent) in
        absurd (omega (arith, length-append s.before (x ∷ s.after))),
    way_is_distinct x xs p a.1 (λ c. h (Contains-later x xs p c)),
  )

  -- a process that waits in turn for itself, and comes first to itself then, is on a cycle
  pub cycle_from : (p : ℕ) (others : List ℕ) → WaitInTurn t waits p others p → ¬ Contains others p
      → IsCycle t waits p others
  cycle_from p others turn absent =
      record { distinct = (absent, way_is_distinct p others p turn absent); in_turn = turn }

  -- ---- a cycle from another of its members

  -- the cycle through q that has the members p and these others, from another place on
  pub record Rotated (p : ℕ) (others : List ℕ) (q : ℕ) : Type 0 where
    pub rest : List ℕ
    pub cycle : IsCycle t waits q rest
    pub members : IsPermutation (p ∷ others) (q ∷ rest)
    pub full : IsPermutation (full_channels waits (p ∷ others)) (full_channels waits (q ∷ rest))

  -- two parts of a list of processes, exchanged
  full_exchanged : (xs ys : List ℕ) → IsPermutation (full_channels waits (xs ++ ys)) (full_channels waits (ys ++ xs))
  full_exchanged xs ys =
      let h : ℕ → Option ℕ = λ p. full_channel (wait_at waits p) in
      subst (λ zs. IsPermutation zs (full_channels waits (ys ++ xs))) (sym (filter_map-append h xs ys))
      (subst (λ zs. IsPermutation (full_channels waits xs ++ full_channels waits ys) zs)
      (sym (filter_map-append h ys xs))
      (IsPermutation-append_comm (full_channels waits xs) (full_channels waits ys)))

  rotated_at : (p : ℕ) (xs : List ℕ) (q : ℕ) (ys : List ℕ) → IsCycle t waits p (xs ++ q ∷ ys)
      → Rotated p (xs ++ q ∷ ys) q
  rotated_at p xs q ys cycle =
      let turns = turn-apart p xs q ys p cycle.in_turn in
      let absent = distinct_apart (p ∷ xs) q ys cycle.distinct in
      let exchanged : IsPermutation ((p ∷ xs) ++ ys) (ys ++ p ∷ xs) = IsPermutation-append_comm (p ∷ xs) ys in
      record {
        rest = ys ++ p ∷ xs;
        cycle =
            cycle_from q (ys ++ p ∷ xs) (turn-append q ys p xs q turns.1 turns.0)
            (λ c.
            absent
            (Contains-permutation (ys ++ p ∷ xs) ((p ∷ xs) ++ ys) q
            (IsPermutation-append_comm ys (p ∷ xs)) c));
        members = IsPermutation-append_comm (p ∷ xs) (q ∷ ys);
        full = full_exchanged (p ∷ xs) (q ∷ ys);
      }

  -- each member of a cycle has the same cycle
  pub rotated : (p : ℕ) (others : List ℕ) → IsCycle t waits p others → (q : ℕ) → Contains (p ∷ others) q
      → Rotated p others q
  rotated p others cycle q h =
      elim (Contains-cases p others q h) [
        | inl same ↦
            let whole : Rotated p others p = record {
              rest = others;
              cycle = cycle;
              members = IsPermutation-refl (p ∷ others);
              full = IsPermutation-refl (full_channels waits (p ∷ others));
            } in
            subst (λ r. Rotated p others r) same whole
        | inr later ↦
            let s = apart_at others q later in
            subst (λ zs. Rotated p zs q) (sym s.is)
            (rotated_at p s.before q s.after (subst (λ zs. IsCycle t waits p zs) s.is cycle))
      ]

  -- ---- how long a cycle is

  process_below : (end : End) (q : ℕ) → process_at end ≡ Some q → end ≡ Process q
  process_below (Process p) q e = let same : p ≡ q = cc in ap Process same
  process_below Source q e = absurd cc
  process_below Sink q e = absurd cc

  pub awaited_below : (w : Wait) (q : ℕ) → awaited t w ≡ Some q → q < length t.instances
  awaited_below Nobody q e = absurd cc
  awaited_below (Empty c) q e = (Writes-writer_of t q c (process_below (writer_of t c) q e)).process
  awaited_below (Full c) q e = (Reads-reader_of t q c (process_below (reader_of t c) q e)).process

  -- a process that another waits for is a process of the network
  pub member_below : (r : ℕ) (xs : List ℕ) (p : ℕ) → WaitInTurn t waits r xs p → (q : ℕ) → Contains xs q
      → q < length t.instances
  member_below r [] p a q h = absurd (Contains-none q h)
  member_below r (x ∷ xs) p a q h =
      elim (Contains-cases x xs q h) [
        | inl same ↦ awaited_below (wait_at waits r) q (a.0.awaited ∙ ap Some same)
        | inr later ↦ member_below x xs p a.1 q later
      ]

  last_below : (r : ℕ) (xs : List ℕ) (p : ℕ) → WaitInTurn t waits r xs p → p < length t.instances
  last_below r [] p a = awaited_below (wait_at waits r) p a.awaited
  last_below r (x ∷ xs) p a = last_below x xs p a.1

  -- each member of a cycle is a process of the network
  pub cycle_below : (p : ℕ) (others : List ℕ) → IsCycle t waits p others → (q : ℕ) → Contains (p ∷ others) q
      → q < length t.instances
  cycle_below p others cycle q h =
      elim (Contains-cases p others q h) [
        | inl same ↦ subst (λ r. r < length t.instances) same (last_below p others p cycle.in_turn)
        | inr later ↦ member_below p others p cycle.in_turn q later
      ]

  -- a cycle has no more members than there are processes
  pub cycle_short : (p : ℕ) (others : List ℕ) → IsCycle t waits p others → length (p ∷ others) ≤ length t.instances
  cycle_short p others cycle =
      length-le_from_distinct_below (p ∷ others) (length t.instances) (keys_distinct (p ∷ others) cycle.distinct)
      (λ q e. cycle_below p others cycle q (Contains-from_any eqb-true q (p ∷ others) e))
