-- The sources are looked at, one after the other.
use Rattle.kpn_pool.proofs.Common.{◌≡◌, ℕ, ◌+◌, true, false, ℤ, List, inl, inr, subst, sym, arith, cases_eq, both_ways, Tables, channel_at, is_source, is_sink, given_by, Event, is_closed, channel_in, Book, AreFedBelow, AreSourcesClosedBelow, AreSinksKeptBelow}
use Rattle.kpn_history.specs.declared.state.View.{View}
use Rattle.kpn_book.specs.Snapshot.{shown_on}

module _ {A : Type 0} (t : Tables) (lists : List (List ℤ)) (view : View A) where
  pub fed_skip : (k : ℕ) → is_source (channel_at t k) ≡ false → AreFedBelow t lists view k
      → AreFedBelow t lists view (k + 1)
  fed_skip k none so_far c below source =
      elim (cases_eq c k) [
        | inl same ↦ absurd (both_ways (is_source (channel_at t k)) none
            (subst (λ x. is_source (channel_at t x) ≡ true) same source))
        | inr other ↦ so_far c (omega arith) source
      ]

  pub fed_more : (k : ℕ) → shown_on view k ≡ given_by t lists k → AreFedBelow t lists view k
      → AreFedBelow t lists view (k + 1)
  fed_more k is so_far c below source =
      elim (cases_eq c k) [
        | inl same ↦ subst (λ x. shown_on view x ≡ given_by t lists x) (sym same) is
        | inr other ↦ so_far c (omega arith) source
      ]

module _ (t : Tables) (H : List Event) where
  -- the next channel is no source, or is closed
  pub closed_more : (k : ℕ) → (is_source (channel_at t k) ≡ true → is_closed H k ≡ true) → AreSourcesClosedBelow t H k
      → AreSourcesClosedBelow t H (k + 1)
  closed_more k is so_far c below source =
      elim (cases_eq c k) [
        | inl same ↦
            let at_k = subst (λ x. is_source (channel_at t x) ≡ true) same source in
            subst (λ x. is_closed H x ≡ true) (sym same) (is at_k)
        | inr other ↦ so_far c (omega arith) source
      ]

module _ (b : Book) where
  -- the next channel is no sink, or its reader is there
  pub kept_more : (k : ℕ) → (is_sink (channel_at b.tables k) ≡ true → (channel_in b.machine k).is_retired ≡ false)
      → AreSinksKeptBelow b k → AreSinksKeptBelow b (k + 1)
  kept_more k is so_far c below sink =
      elim (cases_eq c k) [
        | inl same ↦
            let at_k = subst (λ x. is_sink (channel_at b.tables x) ≡ true) same sink in
            subst (λ x. (channel_in b.machine x).is_retired ≡ false) (sym same) (is at_k)
        | inr other ↦ so_far c (omega arith) sink
      ]
