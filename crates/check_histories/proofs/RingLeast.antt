-- Each iterate of the ring is empty: a copy puts nothing on a list on which there is nothing.
use Rattle.check_histories.proofs.Common.{◌≡◌, ℕ, zero, suc, [], ◌∷◌, map, refl, ap, ◌∙◌, subst, IsPrefix, program_at, instance_at, Family, at_channel, out_of, round, IsBelowLeast, written_on, whole_history, IsJoined, fed}
use Rattle.kpn_lang.specs.Alone.{alone, put_at}
use Rattle.kpn_parts.proofs.Below.{below_least}
use Rattle.kpn_net.proofs.Monotone.{IsPrefixOnSources-refl}
use Rattle.check_histories.specs.Networks.{copy_network}
use Rattle.check_histories.specs.Cuts.{ring_network, ring_cut}
use Rattle.check_histories.specs.Orders.{ring_order}
use Rattle.check_histories.proofs.TwoParts.{ring_is, ring_cut_is}

-- a copy says nothing where nothing comes in
copies_nothing : (n : ℕ) → (alone (program_at copy_network 0) [] n ([] ∷ [])).talk ≡ []
unfolding copy_network
copies_nothing zero = refl
copies_nothing (suc n) = refl

first_puts_nothing : (n : ℕ) (X : Family) → X 1 ≡ [] → out_of ring_network 0 n X 0 ≡ []
unfolding ring_network copy_network
first_puts_nothing n X none =
    ap
    (λ xs.
    put_at (map (at_channel (instance_at ring_network 0)) (alone (program_at copy_network 0) [] n (xs ∷ [])).talk) 0)
    none
    ∙ ap (λ talk. put_at (map (at_channel (instance_at ring_network 0)) talk) 0) (copies_nothing n)

second_puts_nothing : (n : ℕ) (X : Family) → X 0 ≡ [] → out_of ring_network 1 n X 1 ≡ []
unfolding ring_network copy_network
second_puts_nothing n X none =
    ap
    (λ xs.
    put_at (map (at_channel (instance_at ring_network 1)) (alone (program_at copy_network 0) [] n (xs ∷ [])).talk) 1)
    none
    ∙ ap (λ talk. put_at (map (at_channel (instance_at ring_network 1)) talk) 1) (copies_nothing n)

rounds_are_empty : (given : Family) (n k : ℕ)
    → (round ring_network given n k 0 ≡ []) × (round ring_network given n k 1 ≡ [])
unfolding ring_network copy_network
rounds_are_empty given n zero = (refl, refl)
rounds_are_empty given n (suc k) =
    let before = rounds_are_empty given n k in (
      first_puts_nothing n (round ring_network given n k) before.1,
      second_puts_nothing n (round ring_network given n k) before.0,
    )

pub nobody_made : (given : Family)
    → IsBelowLeast ring_network given 0 (written_on (whole_history ring_network ring_cut ring_order) 0) → ⊥
unfolding ring_network ring_cut ring_order
nobody_made given h =
    let none = (rounds_are_empty given h.turns h.turns).0 in
    subst (IsPrefix (written_on (whole_history ring_network ring_cut ring_order) 0)) none h.below

pub not_joined : IsJoined ring_network ring_cut ring_order → ⊥
not_joined joined =
    let given : Family = fed ring_network (whole_history ring_network ring_cut ring_order) in
    nobody_made given
    (below_least ring_network ring_is ring_cut ring_cut_is given ring_order joined
    (IsPrefixOnSources-refl ring_network given) 0)
