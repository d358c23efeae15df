-- Which process an event on a channel wakes: the writer if it waits on the channel as full, or the reader if it waits
-- on it as empty.
use Rattle.std.specs.Prelude.{◌≡◌, ℕ, Bool, true, false, ◌&&◌, ◌||◌, nat_eq, if◌then◌else◌, List, Option, Some, None, slice_set}
use Rattle.kpn_net.specs.declared.wait.Wait.{Wait}
use Rattle.kpn_net.specs.declared.wait.Wait.TheVariants.{Nobody, Empty, Full}
use Rattle.kpn_net.specs.declared.tables.End.{End}
use Rattle.kpn_net.specs.declared.tables.End.TheVariants.{Process, Source, Sink}
use Rattle.kpn_net.specs.Tables.{Tables, writer_of, reader_of}
use Rattle.kpn_net.specs.Waits.{wait_at}

-- the two waits are equal
abbrev pub is_wait : (wait : Wait) → Wait → Bool
is_wait Nobody Nobody = true
is_wait (Empty c) (Empty d) = nat_eq c d
is_wait (Full c) (Full d) = nat_eq c d
is_wait wait other = false

-- the wait is on this channel as full
abbrev pub is_wait_on_full : (c : ℕ) → Wait → Bool
is_wait_on_full c = is_wait (Full c)

-- the wait is on this channel as empty
abbrev pub is_wait_on_empty : (c : ℕ) → Wait → Bool
is_wait_on_empty c = is_wait (Empty c)

-- the process at an end of a channel, if its wait is of this kind
abbrev pub waiting_at : (kind : Wait → Bool) → List Wait → End → Option ℕ
waiting_at kind waits (Process q) = if kind (wait_at waits q) then Some q else None
waiting_at kind waits Source = None
waiting_at kind waits Sink = None

-- the writer of a channel, if it waits on it as full
abbrev pub waiting_writer : Tables → List Wait → (c : ℕ) → Option ℕ
waiting_writer t waits c = waiting_at (is_wait_on_full c) waits (writer_of t c)

-- the reader of a channel, if it waits on it as empty
abbrev pub waiting_reader : Tables → List Wait → (c : ℕ) → Option ℕ
waiting_reader t waits c = waiting_at (is_wait_on_empty c) waits (reader_of t c)

-- ---- the wait table after they are woken; a reader of the public contracts needs none of it

-- a process waits for nobody, if there is one
abbrev pub free_now : Option ℕ → List Wait → List Wait
free_now None waits = waits
free_now (Some q) waits = slice_set waits q Nobody

-- the process at an end of a channel is woken, if its wait is of this kind
abbrev pub woken_at : (kind : Wait → Bool) → List Wait → End → List Wait
woken_at kind waits end = free_now (waiting_at kind waits end) waits

-- each process that had a wait of this kind waits for nobody, and all others wait as before
pub record AreWoken (kind : Wait → Bool) (before after : List Wait) : Type 0 where
  pub each : (q : ℕ) → wait_at after q ≡ (if kind (wait_at before q) then Nobody else wait_at before q)

-- a batch ends this wait: it is on this channel as empty and items were put there, or as full and items were taken
abbrev pub ends_by_batch : (c : ℕ) → (taken put : Bool) → Wait → Bool
ends_by_batch c taken put wait = (put && is_wait_on_empty c wait) || (taken && is_wait_on_full c wait)
