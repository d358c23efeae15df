-- Which events wake which waits, whatever the history. An item that comes to a channel wakes a process that waits on it
-- as empty. An item that is taken from it, a larger capacity or the loss of its reader wakes a process that waits on it
-- as full.
use Rattle.std.specs.Prelude.{◌≡◌, ℕ, ◌<◌, Bool, true, false, nat_eq, if◌then◌else◌, List, length}
use Rattle.kpn_net.specs.declared.wait.Wait.{Wait}
use Rattle.kpn_net.specs.declared.wait.Wait.TheVariants.{Nobody, Empty, Full}
use Rattle.kpn_net.specs.declared.tables.End.{End}
use Rattle.kpn_net.specs.declared.tables.End.TheVariants.{Process, Source, Sink}
use Rattle.kpn_net.specs.Tables.{Tables, writer_of, reader_of}
use Rattle.kpn_history.specs.declared.event.Event.{Event}
use Rattle.kpn_history.specs.declared.event.Event.TheVariants.{Get, Put, Ended, Feed, Take, Leave, Grow}
use Rattle.kpn_history.specs.Talks.{is_of}
use Rattle.kpn_history.specs.Channels.{is_empty, is_full}
use Rattle.kpn_history.specs.WaitsAfter.{wait_made}

-- ---- which waits an event ends

-- this process is at the end of a channel
abbrev pub is_process : (p : ℕ) → End → Bool
is_process p (Process q) = nat_eq p q
is_process p Source = false
is_process p Sink = false

-- the event wakes the reader of the channel, if it waits on it as empty
abbrev pub wakes_reader : (c : ℕ) → Event → Bool
wakes_reader c (Put p d v) = nat_eq d c
wakes_reader c (Feed d v) = nat_eq d c
wakes_reader c event = false

-- the event wakes the writer of the channel, if it waits on it as full
abbrev pub wakes_writer : Tables → (c : ℕ) → Event → Bool
wakes_writer t c (Get p d v) = nat_eq d c
wakes_writer t c (Ended p how) = is_process p (reader_of t c)
wakes_writer t c (Take d v) = nat_eq d c
wakes_writer t c (Leave d) = nat_eq d c
wakes_writer t c (Grow p d n) = nat_eq d c
wakes_writer t c event = false

-- the event wakes a process that has this wait
abbrev pub wakes : Tables → Event → Wait → Bool
wakes t event Nobody = false
wakes t event (Empty c) = wakes_reader c event
wakes t event (Full c) = wakes_writer t c event

-- what a process waits for after an event, by what it waited for before: after an event of its own what this made it
-- wait on, nobody if the event wakes it, else the same
abbrev pub wait_then : Tables → Event → (p : ℕ) → Wait → Wait
wait_then t event p wait =
    if is_of p event then wait_made event else
    if wakes t event wait then Nobody else wait

-- ---- which processes an event wakes

-- process p waits as full on a channel that process q reads
pub record WaitsAsFullFor (t : Tables) (q p : ℕ) (wait : Wait) : Type 0 where
  pub channel : ℕ
  pub waits : wait ≡ Full channel
  pub read : reader_of t channel ≡ Process q
  pub written : writer_of t channel ≡ Process p

-- the event wakes process p, which has this wait. A put or a feed wakes the reader of its channel, if that waits on it
-- as empty. A get, a take, a leave or a growth wakes the writer of its channel, if that waits on it as full. The end of
-- a process wakes each writer that waits as full on a channel that the process reads
abbrev pub IsWoken : Tables → Event → (p : ℕ) → Wait → Type 0
IsWoken t (Get q c v) p wait = (wait ≡ Full c) × (writer_of t c ≡ Process p)
IsWoken t (Put q c v) p wait = (wait ≡ Empty c) × (reader_of t c ≡ Process p)
IsWoken t (Ended q how) p wait = WaitsAsFullFor t q p wait
IsWoken t (Feed c v) p wait = (wait ≡ Empty c) × (reader_of t c ≡ Process p)
IsWoken t (Take c v) p wait = (wait ≡ Full c) × (writer_of t c ≡ Process p)
IsWoken t (Leave c) p wait = (wait ≡ Full c) × (writer_of t c ≡ Process p)
IsWoken t (Grow q c n) p wait = (wait ≡ Full c) × (writer_of t c ≡ Process p)
IsWoken t event p wait = ⊥

-- the event ends no process
abbrev pub EndsNobody : Event → Type 0
EndsNobody (Ended p how) = ⊥
EndsNobody event = Unit {0}

-- ---- which channels a process may wait on

-- process p may wait on c as empty: c is a channel that it reads, and is empty
pub record MayWaitOnEmpty (t : Tables) (H : List Event) (p c : ℕ) : Type 0 where
  pub there : c < length t.channels
  pub reads : reader_of t c ≡ Process p
  pub empty : is_empty H c ≡ true

-- process p may wait on c as full: c is a channel that it writes, and is full
pub record MayWaitOnFull (t : Tables) (H : List Event) (p c : ℕ) : Type 0 where
  pub there : c < length t.channels
  pub writes : writer_of t c ≡ Process p
  pub full : is_full t H c ≡ true
