-- The cuts of the worked networks are cuts.
use Rattle.check_histories.proofs.Common.{slice_index_or, ◌≡◌, ℕ, zero, suc, ◌<◌, lit<, List, [], ◌∷◌, length, refl, sym, arith, Tables, IsNetwork, Part, whole_process, part_at, IsSameProcess, IsPart, HasHome, IsCut}
use Rattle.check_histories.specs.Networks.{copy_network}
use Rattle.check_histories.proofs.NetworkTests.{network-true}
use Rattle.check_histories.specs.Cuts.{copy_part, chain_network, chain_cut, ring_network, ring_cut}

copy_is : IsNetwork copy_network
unfolding copy_network
copy_is = network-true copy_network refl refl

pub chain_is : IsNetwork chain_network
unfolding chain_network copy_network
chain_is = network-true chain_network refl refl

pub ring_is : IsNetwork ring_network
unfolding ring_network copy_network
ring_is = network-true ring_network refl refl

-- ---- a part with one copy

two_numbers : (a b : ℕ) → (a ≡ b → ⊥) → (c d : ℕ) → c < 2 → d < 2
    → slice_index_or (a ∷ b ∷ []) c 0 ≡ slice_index_or (a ∷ b ∷ []) d 0 → c ≡ d
two_numbers a b differ zero zero below there same = refl
two_numbers a b differ zero (suc zero) below there same = absurd (differ same)
two_numbers a b differ (suc zero) zero below there same = absurd (differ (sym same))
two_numbers a b differ (suc zero) (suc zero) below there same = refl
two_numbers a b differ (suc (suc c)) d below there same = absurd omega (arith, below)
two_numbers a b differ c (suc (suc d)) below there same = absurd omega (arith, there)

copy_part_is : (t : Tables) (p a b : ℕ) → (a ≡ b → ⊥) → IsSameProcess t (copy_part p a b) 0
    → IsPart t (copy_part p a b)
unfolding copy_network
copy_part_is t p a b differ same =
    record {
      network = copy_is;
      processes = λ q below. first q below;
      distinct = λ c d below there e. two_numbers a b differ c d below there e;
    }
  where
    first : (q : ℕ) → q < 1 → IsSameProcess t (copy_part p a b) q
    first zero below = same
    first (suc q) below = absurd omega (arith, below)

-- ---- two parts with one copy each

module _ (t : Tables) (a b c d : ℕ) where
  abbrev two_parts : List Part
  two_parts = copy_part 0 a b ∷ copy_part 1 c d ∷ []

  two_once : (r s p q : ℕ) → p < length (part_at two_parts r).tables.instances
      → q < length (part_at two_parts s).tables.instances
      → whole_process (part_at two_parts r) p ≡ whole_process (part_at two_parts s) q → (r ≡ s) × (p ≡ q)
  unfolding copy_network
  two_once zero zero p q below there same = (refl, omega (arith, below, there))
  two_once (suc zero) (suc zero) p q below there same = (refl, omega (arith, below, there))
  two_once zero (suc zero) zero zero below there same = absurd omega (arith, same)
  two_once (suc zero) zero zero zero below there same = absurd omega (arith, same)
  two_once zero (suc zero) (suc p) q below there same = absurd omega (arith, below)
  two_once zero (suc zero) zero (suc q) below there same = absurd omega (arith, there)
  two_once (suc zero) zero (suc p) q below there same = absurd omega (arith, below)
  two_once (suc zero) zero zero (suc q) below there same = absurd omega (arith, there)
  two_once (suc (suc r)) s p q below there same = absurd omega (arith, below)
  two_once r (suc (suc s)) p q below there same = absurd omega (arith, there)

  pub two_parts_are : length t.instances ≡ 2 → (a ≡ b → ⊥) → (c ≡ d → ⊥) → IsSameProcess t (copy_part 0 a b) 0
      → IsSameProcess t (copy_part 1 c d) 0 → IsCut t two_parts
  unfolding copy_network
  two_parts_are two first second same same' =
      record {
        parts = λ r below. part r below;
        home = λ p below. home p (omega (arith, two, below));
        once = two_once;
      }
    where
      part : (r : ℕ) → r < 2 → IsPart t (part_at two_parts r)
      part zero below = copy_part_is t 0 a b first same
      part (suc zero) below = copy_part_is t 1 c d second same'
      part (suc (suc r)) below = absurd omega (arith, below)

      home : (p : ℕ) → p < 2 → HasHome two_parts p
      home zero below = record { part = 0; process = 0; there = lit< tt; is = refl }
      home (suc zero) below = record { part = 1; process = 0; there = lit< tt; is = refl }
      home (suc (suc p)) below = absurd omega (arith, below)

pub chain_cut_is : IsCut chain_network chain_cut
unfolding chain_network chain_cut copy_network
chain_cut_is =
    two_parts_are chain_network 0 1 1 2 refl (λ e. absurd omega (arith, e)) (λ e. absurd omega (arith, e))
    (record { there = lit< tt; program = refl; pars = refl; ins = refl; outs = refl })
    (record { there = lit< tt; program = refl; pars = refl; ins = refl; outs = refl })

pub ring_cut_is : IsCut ring_network ring_cut
unfolding ring_network ring_cut copy_network
ring_cut_is =
    two_parts_are ring_network 1 0 0 1 refl (λ e. absurd omega (arith, e)) (λ e. absurd omega (arith, e))
    (record { there = lit< tt; program = refl; pars = refl; ins = refl; outs = refl })
    (record { there = lit< tt; program = refl; pars = refl; ins = refl; outs = refl })
