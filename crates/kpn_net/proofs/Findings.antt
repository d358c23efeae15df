-- What a search finds of the cycles through processes. It is only one thing, it depends on no capacity of a source, and
-- it is the same from each member.
use Rattle.kpn_net.proofs.Common.{◌≡◌, ℕ, ◌<◌, false, List, ◌∷◌, length, Some, refl, ap, ◌∙◌, subst, Contains, false_from_ne_true, Wait, Process, Tables, writer_of, reader_of, channel_at, is_source, IsNetwork, wait_at, full_channel, IsOwnWait, AreWaits, IsCycle, full_channels, IsSmallest}
use Rattle.kpn_net.specs.declared.wait.Wait.TheVariants as wait
use Rattle.kpn_net.specs.declared.found.Found.{Found}
use Rattle.kpn_net.specs.declared.found.Found.TheVariants.{NoCycle, AllEmpty, Full}
use Rattle.kpn_net.specs.Finding.{IsCycleWithoutFull, IsSmallestOfCycle, Finds}
use Rattle.kpn_net.proofs.Networks.{Writes-writer_of, Writes-below, Reads-reader_of, Reads-below, writer_of-source}
use Rattle.kpn_net.proofs.Cycles.{Contains-none, cycle_unique, cycle_below, smallest_unique, smallest_permuted, smallest_with_same_capacities, full_at, rotated}

-- ---- channels of waits

pub own_full : (t : Tables) (p : ℕ) (w : Wait) (c : ℕ) → IsOwnWait t p w → full_channel w ≡ Some c
    → writer_of t c ≡ Process p
own_full t p wait.Nobody c h e = absurd cc
own_full t p (wait.Empty d) c h e = absurd cc
own_full t p (wait.Full d) c h e = let same : d ≡ c = cc in subst (λ z. writer_of t z ≡ Process p) same h

pub written_below : (t : Tables) → IsNetwork t → (p c : ℕ) → writer_of t c ≡ Process p → c < length t.channels
written_below t network p c e = Writes-below t network p c (Writes-writer_of t p c e)

pub read_below : (t : Tables) → IsNetwork t → (p c : ℕ) → reader_of t c ≡ Process p → c < length t.channels
read_below t network p c e = Reads-below t network p c (Reads-reader_of t p c e)

module _ (t : Tables) (waits : List Wait) where
  -- a full channel of a cycle is written by a process
  pub full_is_written : AreWaits t waits → (p : ℕ) (others : List ℕ) → IsCycle t waits p others → (c : ℕ)
      → Contains (full_channels waits (p ∷ others)) c → (q : ℕ) × (writer_of t c ≡ Process q)
  full_is_written are p others cycle c h =
      let r = full_at waits (p ∷ others) c h in (
        r.member,
        own_full t r.member (wait_at waits r.member) c
            (are.own r.member (cycle_below t waits p others cycle r.member r.among)) r.full,
      )

  pub full_below : IsNetwork t → AreWaits t waits → (cap : ℕ → ℕ) (p c : ℕ) → IsSmallestOfCycle t waits cap p c
      → c < length t.channels
  full_below network are cap p c h =
      let w = full_is_written are p h.others h.cycle c h.smallest.among in
      written_below t network w.0 c w.1

  -- ---- one thing is found

  same_full : (p : ℕ) (others more : List ℕ) → IsCycle t waits p others → IsCycle t waits p more
      → full_channels waits (p ∷ others) ≡ full_channels waits (p ∷ more)
  same_full p others more a b = ap (λ zs. full_channels waits (p ∷ zs)) (cycle_unique t waits p others more a b)

  pub full_cycle_unique : (cap : ℕ → ℕ) (p c d : ℕ) → IsSmallestOfCycle t waits cap p c
      → IsSmallestOfCycle t waits cap p d → c ≡ d
  full_cycle_unique cap p c d a b =
      smallest_unique cap (full_channels waits (p ∷ b.others)) c d
      (subst (λ zs. IsSmallest cap zs c) (same_full p a.others b.others a.cycle b.cycle) a.smallest)
      b.smallest

  empty_or_full : (cap : ℕ → ℕ) (p c : ℕ) → IsCycleWithoutFull t waits p → IsSmallestOfCycle t waits cap p c → ⊥
  empty_or_full cap p c a b =
      Contains-none c
      (subst (λ zs. Contains zs c) (same_full p b.others a.others b.cycle a.cycle ∙ a.empty) b.smallest.among)

  pub finding_unique : (cap : ℕ → ℕ) (p : ℕ) (found other : Found) → Finds t waits cap p found
      → Finds t waits cap p other → found ≡ other
  finding_unique cap p NoCycle NoCycle a b = refl
  finding_unique cap p NoCycle AllEmpty a b = absurd (a b.others b.cycle)
  finding_unique cap p NoCycle (Full c) a b = absurd (a b.others b.cycle)
  finding_unique cap p AllEmpty NoCycle a b = absurd (b a.others a.cycle)
  finding_unique cap p AllEmpty AllEmpty a b = refl
  finding_unique cap p AllEmpty (Full c) a b = absurd (empty_or_full cap p c a b)
  finding_unique cap p (Full c) NoCycle a b = absurd (b a.others a.cycle)
  finding_unique cap p (Full c) AllEmpty a b = absurd (empty_or_full cap p c b a)
  finding_unique cap p (Full c) (Full d) a b = ap Full (full_cycle_unique cap p c d a b)

  -- ---- capacities of sources

  pub full_with_same_capacities : AreWaits t waits → (cap other : ℕ → ℕ)
      → ((c : ℕ) → is_source (channel_at t c) ≡ false → cap c ≡ other c) → (p c : ℕ)
      → IsSmallestOfCycle t waits cap p c → IsSmallestOfCycle t waits other p c
  full_with_same_capacities are cap other same p c h =
      record {
        others = h.others;
        cycle = h.cycle;
        smallest = smallest_with_same_capacities cap other (full_channels waits (p ∷ h.others))
            (λ d among.
            let w = full_is_written are p h.others h.cycle d among in
            same d (false_from_ne_true _ (λ e. let s = writer_of-source t d e in let q = w.1 in absurd cc)))
            c h.smallest;
      }

  pub finding_with_same_capacities : AreWaits t waits → (cap other : ℕ → ℕ)
      → ((c : ℕ) → is_source (channel_at t c) ≡ false → cap c ≡ other c) → (p : ℕ) (found : Found)
      → Finds t waits cap p found → Finds t waits other p found
  finding_with_same_capacities are cap other same p NoCycle h = h
  finding_with_same_capacities are cap other same p AllEmpty h = h
  finding_with_same_capacities are cap other same p (Full c) h = full_with_same_capacities are cap other same p c h

  -- ---- another member of the cycle

  -- what is found from one member is found from each
  pub full_from_member : (cap : ℕ → ℕ) (q c : ℕ) (h : IsSmallestOfCycle t waits cap q c) (p : ℕ)
      → Contains (q ∷ h.others) p → IsSmallestOfCycle t waits cap p c
  full_from_member cap q c h p among =
      let r = rotated t waits q h.others h.cycle p among in
      record {
        others = r.rest;
        cycle = r.cycle;
        smallest =
            smallest_permuted cap (full_channels waits (q ∷ h.others)) (full_channels waits (p ∷ r.rest)) c r.full
            h.smallest;
      }
