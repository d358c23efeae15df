-- Kahn's theorem over all legal histories. As in Kahn 1974, the streams of a network are the least solution of its
-- processes' equations, whatever the order in which the processes go.
use Rattle.kpn_history.proofs.Common.{◌≡◌, ℕ, ◌≤◌, ◌⊎◌, max, List, length, take, refl, sym, ap, ◌∙◌, inl, inr, arith, take-append-le, IsPrefix, Tables, IsNetwork, Family, iterate, IsPrefixOnSources, AgreeOnSources, IsBelowLeast, IsLeast, Event, written_on, read_on, fed, Legal, IsQuiet, IsPrefix-trans, IsPrefix-same, IsPrefix-antisym, rest_of_prefix, prefixes_of_one, length_of_prefix, iterate-grows, IsPrefixOnSources-refl, IsPrefixOnSources-agree, round-depends_on_sources, closed_below-IsLeast}
use Rattle.kpn_history.proofs.Journals.{reads_begin_writes}
use Rattle.kpn_history.proofs.Below.{IsBelowIterate, journals_below, fed_on_sources}
use Rattle.kpn_history.proofs.Above.{SaysAll-legal, IsClosed-quiet}

-- the first items of a list and of one that it begins are the same
pub take-prefix : {A : Type 0} (xs ys : List A) → IsPrefix xs ys → (k : ℕ) → k ≤ length xs → take k xs ≡ take k ys
take-prefix xs ys p k h =
    let r = rest_of_prefix xs ys p in
    sym (take-append-le k xs r.0 h) ∙ ap (take k) r.1

module _ (t : Tables) (network : IsNetwork t) where
  -- all journals are below one iterate for given lists that begin with what was fed
  pub below_one_iterate : (H : List Event) → Legal t H → (given : Family) → IsPrefixOnSources t (fed t H) given
      → IsBelowIterate t given H
  below_one_iterate H legal given s = journals_below t network given H legal (fed_on_sources t H given s)

  pub below_least : (H : List Event) → Legal t H → (given : Family) → IsPrefixOnSources t (fed t H) given → (c : ℕ)
      → IsBelowLeast t given c (written_on H c)
  below_least H legal given s c =
      let b = below_one_iterate H legal given s in
      record { turns = b.turns; below = b.below c }

  pub below_least_fed : (H : List Event) → Legal t H → (c : ℕ) → IsBelowLeast t (fed t H) c (written_on H c)
  below_least_fed H legal = below_least H legal (fed t H) (IsPrefixOnSources-refl t (fed t H))

  -- ---- two histories fed from the same lists

  -- of two journals of a channel one begins the other
  pub one_begins_other : (G H : List Event) → Legal t G → Legal t H → (given : Family)
      → IsPrefixOnSources t (fed t G) given → IsPrefixOnSources t (fed t H) given → (c : ℕ)
      → IsPrefix (written_on G c) (written_on H c) ⊎ IsPrefix (written_on H c) (written_on G c)
  one_begins_other G H legal-G legal-H given s r c =
      let b = below_one_iterate G legal-G given s in
      let d = below_one_iterate H legal-H given r in
      let n = max b.turns d.turns in
      prefixes_of_one (written_on G c) (written_on H c) (iterate t given n c)
      (IsPrefix-trans (written_on G c) (iterate t given b.turns c) (iterate t given n c) (b.below c)
      (iterate-grows t given b.turns n (omega arith) c))
      (IsPrefix-trans (written_on H c) (iterate t given d.turns c) (iterate t given n c) (d.below c)
      (iterate-grows t given d.turns n (omega arith) c))

  -- ---- quiet histories

  pub least_if_quiet : (H : List Event) → Legal t H → IsQuiet t H → (c : ℕ) → IsLeast t (fed t H) c (written_on H c)
  least_if_quiet H legal quiet =
      closed_below-IsLeast t (fed t H) (written_on H) (IsClosed-quiet t network H (SaysAll-legal t network H legal) quiet)
      (below_least_fed H legal)

  -- the journals of a quiet history are each iterate from one on
  pub iterate_if_quiet : (H : List Event) → Legal t H → IsQuiet t H → (given : Family)
      → AgreeOnSources t (fed t H) given → (b : IsBelowIterate t given H) (n : ℕ) → b.turns ≤ n → (c : ℕ)
      → written_on H c ≡ iterate t given n c
  iterate_if_quiet H legal quiet given a b n later c =
      IsPrefix-antisym (written_on H c) (iterate t given n c)
      (IsPrefix-trans (written_on H c) (iterate t given b.turns c) (iterate t given n c) (b.below c)
      (iterate-grows t given b.turns n later c))
      (IsPrefix-trans (iterate t given n c) (iterate t (fed t H) n c) (written_on H c)
      (IsPrefix-same _ _ (sym (round-depends_on_sources t (fed t H) given a n n c)))
      ((least_if_quiet H legal quiet c).above n))

  pub least_if_quiet_given : (H : List Event) → Legal t H → IsQuiet t H → (given : Family)
      → AgreeOnSources t (fed t H) given → (c : ℕ) → IsLeast t given c (written_on H c)
  least_if_quiet_given H legal quiet given a c =
      record {
        below = below_least H legal given (IsPrefixOnSources-agree t (fed t H) given a) c;
        above = λ n.
            IsPrefix-trans (iterate t given n c) (iterate t (fed t H) n c) (written_on H c)
            (IsPrefix-same _ _ (sym (round-depends_on_sources t (fed t H) given a n n c)))
            ((least_if_quiet H legal quiet c).above n);
      }

  -- two quiet histories are one iterate
  pub one_iterate : (G H : List Event) → Legal t G → Legal t H → IsQuiet t G → IsQuiet t H → (given : Family)
      → AgreeOnSources t (fed t G) given → AgreeOnSources t (fed t H) given
      → (n : ℕ) × ((c : ℕ) → (written_on G c ≡ iterate t given n c) × (written_on H c ≡ iterate t given n c))
  one_iterate G H legal-G legal-H quiet-G quiet-H given a r =
      let b = below_one_iterate G legal-G given (IsPrefixOnSources-agree t (fed t G) given a) in
      let d = below_one_iterate H legal-H given (IsPrefixOnSources-agree t (fed t H) given r) in
      let n = max b.turns d.turns in (
        n,
        λ c. (
          iterate_if_quiet G legal-G quiet-G given a b n (omega arith) c,
          iterate_if_quiet H legal-H quiet-H given r d n (omega arith) c,
        ),
      )

  pub same_journals : (G H : List Event) → Legal t G → Legal t H → IsQuiet t G → IsQuiet t H
      → AgreeOnSources t (fed t G) (fed t H) → (c : ℕ) → written_on G c ≡ written_on H c
  same_journals G H legal-G legal-H quiet-G quiet-H a c =
      let r = one_iterate G H legal-G legal-H quiet-G quiet-H (fed t H) a (record { each = λ d source. refl }) in
      (r.1 c).0 ∙ sym (r.1 c).1

  -- the first items read are the same
  pub first_items : (G H : List Event) → Legal t G → Legal t H → (given : Family)
      → IsPrefixOnSources t (fed t G) given → IsPrefixOnSources t (fed t H) given → (c k : ℕ)
      → k ≤ length (read_on G c) → k ≤ length (read_on H c) → take k (read_on G c) ≡ take k (read_on H c)
  first_items G H legal-G legal-H given s r c k enough-G enough-H =
      let read-G = reads_begin_writes t G legal-G c in
      let read-H = reads_begin_writes t H legal-H c in
      let long-G = length_of_prefix (read_on G c) (written_on G c) read-G in
      let long-H = length_of_prefix (read_on H c) (written_on H c) read-H in
      take-prefix (read_on G c) (written_on G c) read-G k enough-G
      ∙ elim (one_begins_other G H legal-G legal-H given s r c)
      as (λ _. take k (written_on G c) ≡ take k (written_on H c)) [
        | inl h ↦ take-prefix (written_on G c) (written_on H c) h k (omega arith)
        | inr h ↦ sym (take-prefix (written_on H c) (written_on G c) h k (omega arith))
      ]
      ∙ sym (take-prefix (read_on H c) (written_on H c) read-H k enough-H)
