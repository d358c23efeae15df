-- What a scan of all processes finds, from what a search finds of the cycle through each.
use Rattle.kpn_cycle.proofs.Common.{◌≡◌, ◌↔◌, ℕ, ◌+◌, ◌<◌, ◌≤◌, List, ◌∷◌, length, ap, subst, inl, inr, arith, Contains, Wait, NoCycle, AllEmpty, Full, Tables, IsNetwork, IsOwnWait, IsCycle, full_channels, IsSmallestOfCycle, Finds, Contains-first, cycle_below, smallest_among, written_below, read_below, full_cycle_unique, finding_unique, full_from_member, IsBelowLimit, ScanFinds, IsOnChannelBelow}
use Rattle.std.proofs.lemmas.Bool.{cases_lt}
use Rattle.kpn_net.specs.declared.wait.Wait.TheVariants as wait
use Rattle.kpn_net.specs.declared.found.Found.{Found}

-- a wait of a process is on a channel of the network
pub on_channel : (t : Tables) → IsNetwork t → (p : ℕ) (w : Wait) → IsOwnWait t p w
    → IsOnChannelBelow (length t.channels) w
on_channel t network p wait.Nobody h = tt
on_channel t network p (wait.Empty c) h = read_below t network p c h
on_channel t network p (wait.Full c) h = written_below t network p c h

module _ (t : Tables) (waits : List Wait) where
  pub scan_search : (cap : ℕ → ℕ) (p : ℕ) → p < length t.instances
      → ((q : ℕ) (others : List ℕ) (d : ℕ) → IsCycle t waits q others → Contains (full_channels waits (q ∷ others)) d
      → cap d < t.limit → Contains (q ∷ others) p) → (found : Found) → ScanFinds t waits cap found → (c : ℕ)
      → (found ≡ Full c) ↔ (IsSmallestOfCycle t waits cap p c × (cap c < t.limit))
  scan_search cap p below only NoCycle scan c =
      (λ e. absurd cc, λ (h, small). absurd (scan p c below (record { smallest = h; below_limit = small })))
  scan_search cap p below only AllEmpty scan c = absurd scan
  scan_search cap p below only (Full d) (q, first) c =
      let there = first.here in
      let h = there.smallest in
      let member = only q h.others d h.cycle h.smallest.among there.below_limit in
      let here = full_from_member t waits cap q d h p member in (
        λ e.
            let same : d ≡ c = cc in
            let P : ℕ → Type 0 = λ z. IsSmallestOfCycle t waits cap p z × (cap z < t.limit) in
            subst P same (here, there.below_limit),
        λ (k, small). ap Full (full_cycle_unique t waits cap p d c here k),
      )

  pub scan_none : (cap : ℕ → ℕ) → ScanFinds t waits cap NoCycle → (p : ℕ) (others : List ℕ) (d : ℕ)
      → IsCycle t waits p others → Contains (full_channels waits (p ∷ others)) d → t.limit ≤ cap d
  scan_none cap scan p others d cycle among =
      let s = smallest_among cap (full_channels waits (p ∷ others)) d among in
      let below = cycle_below t waits p others cycle p (Contains-first p others) in
      elim (cases_lt (cap s.channel) t.limit) [
        | inl small ↦ absurd
            (scan p s.channel below
            (record { smallest = record { others = others; cycle = cycle; smallest = s.is }; below_limit = small }))
        | inr large ↦ elim (s.is.least d among) [ inl less ↦ omega arith | inr tie ↦ omega arith ]
      ]

  -- the processes before p have no such cycle, nor does p
  pub scan-more : (cap : ℕ → ℕ) (p : ℕ) (found : Found) → ((q d : ℕ) → q < p → ¬ IsBelowLimit t waits cap q d)
      → Finds t waits cap p found → ((c : ℕ) → found ≡ Full c → t.limit ≤ cap c) → (q d : ℕ) → q < p + 1
      → ¬ IsBelowLimit t waits cap q d
  scan-more cap p found before here large q d below =
      elim (cases_lt q p) [
        | inl less ↦ before q d less
        | inr last ↦
            let same : q ≡ p = omega arith in
            λ b.
            let at_p : IsBelowLimit t waits cap p d = subst (λ r. IsBelowLimit t waits cap r d) same b in
            let limit = large d (finding_unique t waits cap p found (Full d) here at_p.smallest) in
            let small = at_p.below_limit in
            omega arith
      ]
