-- What a search for the cycle of waiting processes through one of them finds.
use Rattle.std.specs.Prelude.{◌≡◌, ℕ, List, [], ◌∷◌}
use Rattle.kpn_net.specs.declared.wait.Wait.{Wait}
use Rattle.kpn_net.specs.declared.found.Found.{Found}
use Rattle.kpn_net.specs.declared.found.Found.TheVariants.{NoCycle, AllEmpty, Full}
use Rattle.kpn_net.specs.Tables.{Tables}
use Rattle.kpn_net.specs.Waits.{IsCycle, full_channels, IsSmallest}

-- there is a cycle through p, and it has no full channel
pub record IsCycleWithoutFull (t : Tables) (waits : List Wait) (p : ℕ) : Type 0 where
  pub others : List ℕ
  pub cycle : IsCycle t waits p others
  pub empty : full_channels waits (p ∷ others) ≡ []

-- c is the smallest of the full channels of the cycle through p
pub record IsSmallestOfCycle (t : Tables) (waits : List Wait) (cap : ℕ → ℕ) (p c : ℕ) : Type 0 where
  pub others : List ℕ
  pub cycle : IsCycle t waits p others
  pub smallest : IsSmallest cap (full_channels waits (p ∷ others)) c

-- what a search finds of the cycle through p
abbrev pub Finds : Tables → List Wait → (cap : ℕ → ℕ) → (p : ℕ) → Found → Type 0
Finds t waits cap p NoCycle = (others : List ℕ) → ¬ IsCycle t waits p others
Finds t waits cap p AllEmpty = IsCycleWithoutFull t waits p
Finds t waits cap p (Full c) = IsSmallestOfCycle t waits cap p c
