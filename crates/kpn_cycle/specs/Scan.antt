-- What a scan of all processes for cycles finds.
use Rattle.std.specs.Prelude.{ℕ, ◌<◌, List, length, slice_index}
use Rattle.kpn_net.specs.declared.wait.Wait.{Wait}
use Rattle.kpn_net.specs.declared.found.Found.{Found}
use Rattle.kpn_net.specs.declared.found.Found.TheVariants.{NoCycle, AllEmpty, Full}
use Rattle.kpn_net.specs.Tables.{Tables}
use Rattle.kpn_net.specs.Finding.{IsSmallestOfCycle}

-- the capacity of a channel in a list of one for each channel
abbrev pub cap_in : List ℕ → (c : ℕ) → ℕ
cap_in caps c = slice_index caps c

-- the smallest full channel of the cycle through p is below the limit
pub record IsBelowLimit (t : Tables) (waits : List Wait) (cap : ℕ → ℕ) (p c : ℕ) : Type 0 where
  pub smallest : IsSmallestOfCycle t waits cap p c
  pub below_limit : cap c < t.limit

-- p is the first process with such a cycle
pub record IsFirstBelowLimit (t : Tables) (waits : List Wait) (cap : ℕ → ℕ) (p c : ℕ) : Type 0 where
  pub process : p < length t.instances
  pub here : IsBelowLimit t waits cap p c
  pub before : (q d : ℕ) → q < p → ¬ IsBelowLimit t waits cap q d

-- what a scan over all processes finds: that of the first process with such a cycle, or that there is none
abbrev pub ScanFinds : Tables → List Wait → (cap : ℕ → ℕ) → Found → Type 0
ScanFinds t waits cap NoCycle = (p c : ℕ) → p < length t.instances → ¬ IsBelowLimit t waits cap p c
ScanFinds t waits cap AllEmpty = ⊥
ScanFinds t waits cap (Full c) = (p : ℕ) × IsFirstBelowLimit t waits cap p c
