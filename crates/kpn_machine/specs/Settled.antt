-- What a run has come to if nothing goes on by itself, as a property of the machine.
use Rattle.std.specs.Prelude.{◌≡◌, ◌≢◌, ℕ, ◌<◌, ◌⊎◌, true, List, [], ◌∷◌, length, Option, Some, None, Contains}
use Rattle.kpn_net.specs.declared.wait.Wait.TheVariants.{Nobody, Full}
use Rattle.kpn_net.specs.Tables.{Tables, channel_at, is_source, is_sink}
use Rattle.kpn_net.specs.Waits.{IsCycle, full_channels}
use Rattle.kpn_chan.specs.Channel.{unread}
use Rattle.kpn_history.specs.declared.event.How.{How}
use Rattle.kpn_history.specs.declared.state.Verdict.{Verdict}
use Rattle.kpn_history.specs.declared.state.Verdict.TheVariants.{Ended, Clogged, Jammed}
use Rattle.kpn_machine.specs.Machine.{Machine, channel_in, closed_in, wait_in, end_in}

-- each process has ended or waits
abbrev pub HaveStoppedIn : Tables → Machine → Type 0
HaveStoppedIn t s =
    (p : ℕ) → p < length t.instances → ((how : How) × (end_in s p ≡ Some how)) ⊎ (wait_in s p ≢ Nobody)

-- each source is closed, and each sink is empty or left
pub record IsOutsideDone (t : Tables) (s : Machine) : Type 0 where
  pub sources : (c : ℕ) → c < length t.channels → is_source (channel_at t c) ≡ true → closed_in s c ≡ true
  pub sinks : (c : ℕ) → c < length t.channels → is_sink (channel_at t c) ≡ true
      → (unread (channel_in s c) ≡ []) ⊎ ((channel_in s c).is_retired ≡ true)

-- nothing goes on by itself, and the caller has done all that it may
pub record IsSettledNow (t : Tables) (s : Machine) : Type 0 where
  pub processes : HaveStoppedIn t s
  pub outside : IsOutsideDone t s

-- some cycle of waiting processes has a full channel
pub record HasFullCycleNow (t : Tables) (s : Machine) : Type 0 where
  pub process : ℕ
  pub others : List ℕ
  pub cycle : IsCycle t s.waits process others
  pub channel : ℕ
  pub full : Contains (full_channels s.waits (process ∷ others)) channel

-- some process waits on a full channel
pub record HasFullWaitNow (t : Tables) (s : Machine) : Type 0 where
  pub process : ℕ
  pub there : process < length t.instances
  pub channel : ℕ
  pub waits : wait_in s process ≡ Full channel

-- the verdict: none unless the run is settled; jammed if some cycle has a full channel, else clogged if some process
-- waits on a full channel, else ended
abbrev pub IsVerdictNow : Tables → Machine → Option Verdict → Type 0
IsVerdictNow t s None = ¬ IsSettledNow t s
IsVerdictNow t s (Some Jammed) = IsSettledNow t s × HasFullCycleNow t s
IsVerdictNow t s (Some Clogged) = IsSettledNow t s × (¬ HasFullCycleNow t s) × HasFullWaitNow t s
IsVerdictNow t s (Some Ended) = IsSettledNow t s × (¬ HasFullCycleNow t s) × (¬ HasFullWaitNow t s)
