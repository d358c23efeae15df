-- What is told of processes, and of the unread items of a channel.
use Rattle.std.specs.Prelude.{◌≡◌, ◌⊎◌, ◌<◌, ◌≤◌, ℕ, if◌then◌else◌, ℤ, List, [], length, take, drop, Option, Some, None}
use Rattle.kpn_chan.specs.Channel.{ChannelState, unread}
use Rattle.kpn_history.specs.declared.event.How.TheVariants.{Done, Overflow, ZeroDivisor, Index, Shift}
use Rattle.kpn_history.specs.declared.state.State.{State}
use Rattle.kpn_history.specs.declared.state.State.TheVariants.{Ready, Held, WaitsEmpty, WaitsFull, Ended}
use Rattle.kpn_machine.specs.Machine.{channel_in}
use Rattle.kpn_book.specs.Book.{Book}
use Rattle.kpn_c.specs.declared.processes.ProcessState.{ProcessState}
use Rattle.kpn_c.specs.Session.{Session}

-- ---- processes

abbrev pub waiting_on : (state channel : ℕ) → ProcessState
waiting_on state channel = record { state = state; channel = channel }

abbrev pub state_alone : (state : ℕ) → ProcessState
state_alone state = record { state = state; channel = 0 }

-- a state as a number, with the channel on which the process waits
abbrev pub state_as : State → ProcessState
state_as Ready = state_alone 0
state_as Held = state_alone 0
state_as (WaitsEmpty c) = waiting_on 1 c
state_as (WaitsFull c) = waiting_on 2 c
state_as (Ended Done) = state_alone 3
state_as (Ended Overflow) = state_alone 4
state_as (Ended ZeroDivisor) = state_alone 5
state_as (Ended Index) = state_alone 6
state_as (Ended Shift) = state_alone 7

-- ---- unread items

-- the items that its reader will get, oldest first: none once the reader is gone
abbrev pub next_items : ChannelState → List ℤ
next_items c = if c.is_retired then [] else unread c

-- the first n of these items stand at the front of a slice, and the rest is as before. They are as many as there is
-- room for, or all
pub record Shows (items : List ℤ) (n : ℕ) (room kept : List ℤ) : Type 0 where
  pub shown : take n kept ≡ take n items
  pub rest : drop n kept ≡ drop n room
  pub long : length kept ≡ length room
  pub within : n ≤ length items
  pub all : (n ≡ length room) ⊎ (n ≡ length items)

-- the next items of the channel are shown, or no channel has this number
abbrev pub LooksInto : (channel : ℕ) → Option ℕ → (room kept : List ℤ) → Book → Type 0
LooksInto channel None room kept b = (length b.tables.channels ≤ channel) × (kept ≡ room)
LooksInto channel (Some n) room kept b =
    (channel < length b.tables.channels) × Shows (next_items (channel_in b.machine channel)) n room kept

abbrev pub TellsNext : (channel code told : ℕ) → (room kept : List ℤ) → Session → Type 0
TellsNext channel code told room kept s =
    ((code ≡ 0) × LooksInto channel (Some told) room kept s.book)
    ⊎ ((code ≡ 64) × LooksInto channel None room kept s.book)
