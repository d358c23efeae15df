-- Which growth is owed once a process has come to wait, or once the run has come to a stop, as a property of the
-- machine.
use Rattle.std.specs.Prelude.{◌≡◌, ℕ, ◌<◌, nat_lt, if◌then◌else◌, length, Option, Some, None}
use Rattle.kpn_net.specs.declared.found.Found.{Found}
use Rattle.kpn_net.specs.declared.found.Found.TheVariants.{NoCycle, AllEmpty, Full}
use Rattle.kpn_net.specs.declared.tables.Policy.TheVariants.{All}
use Rattle.kpn_net.specs.declared.wait.Wait.TheVariants as wait
use Rattle.kpn_net.specs.Tables.{Tables}
use Rattle.kpn_net.specs.Waits.{IsSmallest, awaited_as_full}
use Rattle.kpn_cycle.specs.Scan.{IsBelowLimit, cap_in}
use Rattle.kpn_machine.specs.Machine.{Machine, capacities, wait_in}
use Rattle.kpn_machine.specs.Settled.{IsSettledNow}

-- the smallest full channel of the cycle of waiting processes through p is d, and its capacity is below the limit
abbrev pub IsOwed : Tables → Machine → (p d : ℕ) → Type 0
IsOwed t s p d = IsBelowLimit t s.waits (cap_in (capacities s)) p d

-- the growth of d is owed for a stop under the policy `all`: the run is settled, d is the smallest of the channels on
-- which processes wait as full, it is below the limit, and p waits on it
pub record IsOwedAtStop (t : Tables) (s : Machine) (p d : ℕ) : Type 0 where
  pub policy : t.policy ≡ All
  pub settled : IsSettledNow t s
  pub smallest : IsSmallest (cap_in (capacities s)) (awaited_as_full t s.waits) d
  pub below_limit : cap_in (capacities s) d < t.limit
  pub there : p < length t.instances
  pub waits : wait_in s p ≡ wait.Full d

-- a process waits on channel d as full, and the capacity is below the limit
pub record IsAwaitedBelowLimit (t : Tables) (s : Machine) (d : ℕ) : Type 0 where
  pub process : ℕ
  pub there : process < length t.instances
  pub waits : wait_in s process ≡ wait.Full d
  pub below_limit : cap_in (capacities s) d < t.limit

-- ---- what the code makes of a search; a reader of the public contracts needs none of it

-- the channel that a search found, if it may grow
abbrev pub channel_to_grow : (cap : ℕ → ℕ) → (limit : ℕ) → Found → Option ℕ
channel_to_grow cap limit NoCycle = None
channel_to_grow cap limit AllEmpty = None
channel_to_grow cap limit (Full d) = if nat_lt (cap d) limit then Some d else None
