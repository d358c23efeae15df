-- Which processes are finished and which channels are complete: nothing more is ever put there, whatever the
-- capacities. As in Kahn 1974, a process that asks for an item waits until one comes, and does nothing else. So one that
-- waits for an item that never comes has said all that it will ever say.
use Rattle.std.specs.Prelude.{◌≡◌, ℕ, true, ◌⊎◌, List, Contains}
use Rattle.kpn_net.specs.declared.tables.End.{End}
use Rattle.kpn_net.specs.declared.tables.End.TheVariants.{Process, Source, Sink}
use Rattle.kpn_net.specs.declared.wait.Wait.TheVariants.{Empty}
use Rattle.kpn_net.specs.Tables.{Tables, channel_at, is_source, writer_of}
use Rattle.kpn_net.specs.Process.{Family}
use Rattle.kpn_net.specs.Iteration.{IsPrefixOnSources}
use Rattle.kpn_history.specs.declared.event.Event.{Event}
use Rattle.kpn_history.specs.Talks.{has_ended}
use Rattle.kpn_history.specs.Channels.{written_on, fed, is_closed}
use Rattle.kpn_history.specs.Waiting.{wait_of}

-- this writer puts nothing more on the channel: it is a finished process, or the caller, which has closed the source
abbrev pub PutsNoMore : (finished : ℕ → Type 0) → List Event → (c : ℕ) → (writer : End) → Type 0
PutsNoMore finished H c (Process p) = finished p
PutsNoMore finished H c Source = is_closed H c ≡ true
PutsNoMore finished H c Sink = ⊥

-- a process waits on an empty channel, and nothing more comes there if these processes are finished
pub record StarvesAmong (t : Tables) (H : List Event) (among : List ℕ) (p : ℕ) : Type 0 where
  pub channel : ℕ
  pub waits : wait_of t H p ≡ Empty channel
  pub no_more : PutsNoMore (Contains among) H channel (writer_of t channel)

-- each of these processes has ended, or waits on an empty channel that one of them writes or that is a closed source
pub record AreFinished (t : Tables) (H : List Event) (among : List ℕ) : Type 0 where
  pub each : (p : ℕ) → Contains among p → (has_ended H p ≡ true) ⊎ StarvesAmong t H among p

-- a process is finished: it is one of such processes. So a ring of processes that wait for each other on empty channels
-- is finished
pub record IsFinished (t : Tables) (H : List Event) (p : ℕ) : Type 0 where
  pub among : List ℕ
  pub member : Contains among p
  pub all : AreFinished t H among

-- a channel is complete: its writer is finished, or it is a closed source
abbrev pub IsComplete : Tables → List Event → (c : ℕ) → Type 0
IsComplete t H c = PutsNoMore (IsFinished t H) H c (writer_of t c)

-- a process waits on an empty channel that is complete
pub record WaitsOnComplete (t : Tables) (H : List Event) (p : ℕ) : Type 0 where
  pub channel : ℕ
  pub waits : wait_of t H p ≡ Empty channel
  pub complete : IsComplete t H channel

-- a history is fed from these lists: what each source was fed begins its list, and is all of it once the source is
-- closed
pub record IsFedFrom (t : Tables) (H : List Event) (given : Family) : Type 0 where
  pub begun : IsPrefixOnSources t (fed t H) given
  pub whole : (c : ℕ) → is_source (channel_at t c) ≡ true → is_closed H c ≡ true → written_on H c ≡ given c
