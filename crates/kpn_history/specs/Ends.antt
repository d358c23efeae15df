-- How a history may end: quiet, settled, and the verdict on a settled one. As in Parks 1995, a run is over if all
-- processes wait on empty channels or have ended. If a process waits on a full channel, the stop is artificial.
use Rattle.std.specs.Prelude.{◌≡◌, ℕ, ◌<◌, true, ◌⊎◌, List, length, Option, Some, None}
use Rattle.kpn_net.specs.declared.wait.Wait.TheVariants.{Empty, Full}
use Rattle.kpn_net.specs.Tables.{Tables, channel_at, is_source, is_sink}
use Rattle.kpn_history.specs.declared.event.Event.{Event}
use Rattle.kpn_history.specs.declared.state.Verdict.{Verdict}
use Rattle.kpn_history.specs.declared.state.Verdict.TheVariants.{Ended, Clogged, Jammed}
use Rattle.kpn_history.specs.Talks.{has_ended}
use Rattle.kpn_history.specs.Channels.{is_empty, is_closed, is_left}
use Rattle.kpn_history.specs.Waiting.{wait_of, HasFullCycle}

-- a process is blocked on an empty channel
pub record WaitsOnEmpty (t : Tables) (H : List Event) (p : ℕ) : Type 0 where
  pub channel : ℕ
  pub blocked : wait_of t H p ≡ Empty channel

-- a process is blocked on a full channel
pub record WaitsOnFull (t : Tables) (H : List Event) (p : ℕ) : Type 0 where
  pub channel : ℕ
  pub blocked : wait_of t H p ≡ Full channel

-- a process has ended or is blocked
abbrev pub HasStopped : Tables → List Event → (p : ℕ) → Type 0
HasStopped t H p = (has_ended H p ≡ true) ⊎ WaitsOnEmpty t H p ⊎ WaitsOnFull t H p

-- each process has ended or is blocked
abbrev pub HaveStopped : Tables → List Event → Type 0
HaveStopped t H = (p : ℕ) → p < length t.instances → HasStopped t H p

-- each process has ended or is blocked on an empty channel
pub record IsQuiet (t : Tables) (H : List Event) : Type 0 where
  pub each : (p : ℕ) → p < length t.instances → (has_ended H p ≡ true) ⊎ WaitsOnEmpty t H p

-- each process has ended or is blocked, each source is closed, and each sink is empty or left
pub record IsSettled (t : Tables) (H : List Event) : Type 0 where
  pub processes : HaveStopped t H
  pub sources : (c : ℕ) → c < length t.channels → is_source (channel_at t c) ≡ true → is_closed H c ≡ true
  pub sinks : (c : ℕ) → c < length t.channels → is_sink (channel_at t c) ≡ true
      → (is_empty H c ≡ true) ⊎ (is_left H c ≡ true)

-- some process is blocked on a full channel
pub record HasFullWait (t : Tables) (H : List Event) : Type 0 where
  pub process : ℕ
  pub there : process < length t.instances
  pub waits : WaitsOnFull t H process

-- the verdict on a history: none unless it is settled; jammed if some blocked cycle has a full channel, else clogged if
-- some process is blocked on a full channel, else ended
abbrev pub IsVerdict : Tables → List Event → Option Verdict → Type 0
IsVerdict t H None = ¬ IsSettled t H
IsVerdict t H (Some Jammed) = IsSettled t H × HasFullCycle t H
IsVerdict t H (Some Clogged) = IsSettled t H × (¬ HasFullCycle t H) × HasFullWait t H
IsVerdict t H (Some Ended) = IsSettled t H × (¬ HasFullCycle t H) × (¬ HasFullWait t H)
