-- What processes wait for after a history, and the cycles of blocked processes (Geilen and Basten 2003). As in Parks
-- 1995, a process blocks on a read from an empty channel or a write to a full one.
use Rattle.std.specs.Prelude.{ℕ, if◌then◌else◌, List, length, map, Option, Some, None, Contains, ◌∷◌}
use Rattle.std.specs.List.{range_with_len}
use Rattle.kpn_net.specs.declared.wait.Wait.{Wait}
use Rattle.kpn_net.specs.declared.wait.Wait.TheVariants.{Nobody, Empty, Full}
use Rattle.kpn_net.specs.Tables.{Tables}
use Rattle.kpn_net.specs.Waits.{IsCycle, full_channels}
use Rattle.kpn_history.specs.declared.event.Event.{Event}
use Rattle.kpn_history.specs.declared.event.Event.TheVariants.{WaitEmpty, WaitFull}
use Rattle.kpn_history.specs.Talks.{last_event}
use Rattle.kpn_history.specs.Channels.{is_empty, is_full}

-- a wait lasts while its channel is empty or full
abbrev pub lasting_wait : Tables → List Event → Event → Wait
lasting_wait t H (WaitEmpty p c) = if is_empty H c then Empty c else Nobody
lasting_wait t H (WaitFull p c) = if is_full t H c then Full c else Nobody
lasting_wait t H event = Nobody

abbrev pub wait_of_last : Tables → List Event → Option Event → Wait
wait_of_last t H None = Nobody
wait_of_last t H (Some event) = lasting_wait t H event

-- what a process is blocked on: the channel of its last event, if that is a wait and the channel is still empty, or
-- still full. It is blocked if this is not Nobody
abbrev pub wait_of : Tables → List Event → (p : ℕ) → Wait
wait_of t H p = wait_of_last t H (last_event H p)

-- the wait table of a history
abbrev pub waits_of : Tables → List Event → List Wait
waits_of t H = map (wait_of t H) (range_with_len 0 (length t.instances))

-- a blocked cycle: a cycle of the wait table through p and then these others
abbrev pub IsBlockedCycle : Tables → List Event → (p : ℕ) → (others : List ℕ) → Type 0
IsBlockedCycle t H p others = IsCycle t (waits_of t H) p others

-- the channels on which members of a blocked cycle wait as full
abbrev pub full_in_cycle : Tables → List Event → (p : ℕ) → (others : List ℕ) → List ℕ
full_in_cycle t H p others = full_channels (waits_of t H) (p ∷ others)

-- some blocked cycle has a full channel
pub record HasFullCycle (t : Tables) (H : List Event) : Type 0 where
  pub process : ℕ
  pub others : List ℕ
  pub cycle : IsBlockedCycle t H process others
  pub channel : ℕ
  pub full : Contains (full_in_cycle t H process others) channel
