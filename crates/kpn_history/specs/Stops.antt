-- What growth leaves behind, and what a stop depends on. As in Parks 1995, an artificial deadlock is a cycle of blocked
-- processes with a full channel, which a larger capacity resolves. As in Geilen and Basten 2003, such a cycle may be
-- local.
use Rattle.std.specs.Prelude.{◌≡◌, ◌≢◌, ℕ, ◌<◌, Bool, true, false, List, Some, Contains, length}
use Rattle.kpn_net.specs.declared.wait.Wait.TheVariants.{Nobody, Full}
use Rattle.kpn_net.specs.declared.tables.End.TheVariants.{Process}
use Rattle.kpn_net.specs.Tables.{Tables, writer_of}
use Rattle.kpn_net.specs.Waits.{awaited}
use Rattle.kpn_history.specs.declared.event.Event.{Event}
use Rattle.kpn_history.specs.declared.event.Event.TheVariants.{Get, Put, Feed, Grow}
use Rattle.kpn_history.specs.Channels.{capacity_after, capacity_or_zero}
use Rattle.kpn_history.specs.Waiting.{wait_of, IsBlockedCycle, full_in_cycle}
use Rattle.kpn_history.specs.Legal.{OwesCycleGrowth, OwesStopGrowth, OwesGrowth}

-- no growth is owed
abbrev pub OwesNothing : Tables → List Event → Type 0
OwesNothing t H = (p d : ℕ) → ¬ OwesGrowth t H p d

-- no growth is owed for a cycle
abbrev pub OwesNoCycleGrowth : Tables → List Event → Type 0
OwesNoCycleGrowth t H = (p d : ℕ) → ¬ OwesCycleGrowth t H p d

-- no growth is owed for a stop
abbrev pub OwesNoStopGrowth : Tables → List Event → Type 0
OwesNoStopGrowth t H = (p d : ℕ) → ¬ OwesStopGrowth t H p d

-- after the event something may still go on: an item has moved, or a channel has grown
abbrev pub lets_go_on : Event → Bool
lets_go_on (Get p c v) = true
lets_go_on (Put p c v) = true
lets_go_on (Feed c v) = true
lets_go_on (Grow p d n) = true
lets_go_on event = false

-- the writer of a channel is a process that waits on it as full
pub record IsAwaitedByWriter (t : Tables) (H : List Event) (d : ℕ) : Type 0 where
  pub writer : ℕ
  pub there : writer < length t.instances
  pub writes : writer_of t d ≡ Process writer
  pub waits : wait_of t H writer ≡ Full d

-- a channel of the network has a capacity, which is not 0 and below this limit
pub record HasCapacityBelow (t : Tables) (H : List Event) (limit : ℕ) (d : ℕ) : Type 0 where
  pub there : d < length t.channels
  pub capacity : ℕ
  pub is : capacity_after t H d ≡ Some capacity
  pub some : 0 < capacity
  pub below : capacity < limit

-- some blocked cycle has a full channel below the limit
pub record CanGrow (t : Tables) (H : List Event) : Type 0 where
  pub process : ℕ
  pub others : List ℕ
  pub cycle : IsBlockedCycle t H process others
  pub channel : ℕ
  pub full : Contains (full_in_cycle t H process others) channel
  pub below_limit : capacity_or_zero t H channel < t.limit

-- some blocked cycle has full channels, and each of them has the limit as its capacity
pub record IsJammedAtLimit (t : Tables) (H : List Event) : Type 0 where
  pub process : ℕ
  pub others : List ℕ
  pub cycle : IsBlockedCycle t H process others
  pub channel : ℕ
  pub full : Contains (full_in_cycle t H process others) channel
  pub at_limit : (c : ℕ) → Contains (full_in_cycle t H process others) c → capacity_after t H c ≡ Some t.limit

-- a process waits for one that is blocked
pub record WaitsForBlocked (t : Tables) (H : List Event) (p : ℕ) : Type 0 where
  pub next : ℕ
  pub there : next < length t.instances
  pub awaited : awaited t (wait_of t H p) ≡ Some next
  pub blocked : wait_of t H next ≢ Nobody
