-- What an audit shows of each process and each channel of a network.
use Rattle.std.specs.Prelude.{ℕ, ◌-◌, nat_lt, if◌then◌else◌, false, [], length, slice_index_or, Option, Some, None}
use Rattle.kpn_net.specs.Tables.{Tables, capacity, channel_at}
use Rattle.kpn_net.specs.Waits.{wait_at}
use Rattle.kpn_net.specs.declared.wait.Wait.{Wait}
use Rattle.kpn_net.specs.declared.wait.Wait.TheVariants.{Nobody, Empty, Full}
use Rattle.kpn_history.specs.declared.event.How.{How}
use Rattle.kpn_history.specs.declared.state.State.{State}
use Rattle.kpn_history.specs.declared.state.State.TheVariants.{Ready, WaitsEmpty, WaitsFull, Ended}
use Rattle.kpn_audit.specs.declared.findings.Audit.{Audit}
use Rattle.kpn_command_views.specs.declared.found.ChannelFlow.{ChannelFlow}

-- ---- processes

-- the state of a process that has ended in this way or not, and waits for this
abbrev pub standing_state : Option How → Wait → State
standing_state (Some how) wait = Ended how
standing_state None (Empty c) = WaitsEmpty c
standing_state None (Full c) = WaitsFull c
standing_state None Nobody = Ready

abbrev pub state_in : {A : Type 0} → Audit A → (p : ℕ) → State
state_in audit p = standing_state (slice_index_or audit.ends p None) (wait_at audit.waits p)

-- the state of process p after the history; before any event it is ready
abbrev pub state_of : {A : Type 0} → Option (Audit A) → (p : ℕ) → State
state_of None p = Ready
state_of (Some audit) p = state_in audit p

-- ---- channels

-- the capacity that a channel has grown to from its first one; none if it has not grown
abbrev pub capacity_grown_to : (first now : Option ℕ) → Option ℕ
capacity_grown_to (Some first) (Some now) = if nat_lt first now then Some now else None
capacity_grown_to first now = None

-- the items that were put on channel c, those of them that are unread, what it has grown to, and whether it is complete
abbrev pub flow_in : {A : Type 0} → Tables → Audit A → (c : ℕ) → ChannelFlow
flow_in t audit c = record {
  put = length (slice_index_or audit.journals c []);
  unread = length (slice_index_or audit.journals c []) - slice_index_or audit.reads c 0;
  grown = capacity_grown_to (capacity (channel_at t c)) (slice_index_or audit.caps c None);
  is_complete = slice_index_or audit.complete c false;
}

-- the same, if there is a history
abbrev pub flow_of : {A : Type 0} → Tables → Option (Audit A) → (c : ℕ) → Option ChannelFlow
flow_of t None c = None
flow_of t (Some audit) c = Some (flow_in t audit c)
