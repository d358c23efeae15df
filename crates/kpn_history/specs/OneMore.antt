-- What one more event changes. These facts, and what the event needs before it, make a legal history legal with the
-- event.
use Rattle.std.specs.Prelude.{◌≡◌, ℕ, ◌<◌, true, false, ℤ, List, [], ◌∷◌, ◌++◌, length}
use Rattle.kpn_lang.specs.declared.talk.Said.TheVariants as said
use Rattle.kpn_net.specs.declared.tables.End.TheVariants.{Process}
use Rattle.kpn_net.specs.Tables.{Tables, channel_at, is_source, is_sink, writer_of, reader_of}
use Rattle.kpn_net.specs.Process.{ProcessCanSay}
use Rattle.kpn_history.specs.declared.event.Event.{Event}
use Rattle.kpn_history.specs.declared.event.Event.TheVariants.{Get, Put, WaitEmpty, WaitFull, Ended, Feed, Close, Take, Leave, Grow}
use Rattle.kpn_history.specs.Talks.{talk_of}
use Rattle.kpn_history.specs.Channels.{read_on, unread_on, is_full}

-- the item is the oldest unread one of the channel
pub record IsOldest (B : List Event) (c : ℕ) (v : ℤ) : Type 0 where
  pub rest : List ℤ
  pub first : unread_on B c ≡ v ∷ rest

-- an item that is got or taken is the oldest unread one, a put finds room, and the process can say it
abbrev pub KeepsConsistent : Tables → List Event → Event → Type 0
KeepsConsistent t B (Get p c v) =
    IsOldest B c v × ProcessCanSay t p (read_on (B ++ Get p c v ∷ [])) (talk_of B p ++ said.Got c v ∷ [])
KeepsConsistent t B (Put p c v) = (is_full t B c ≡ false) × ProcessCanSay t p (read_on B) (talk_of B p ++ said.Put c v ∷ [])
KeepsConsistent t B (Take c v) = IsOldest B c v
KeepsConsistent t B event = Unit {0}

-- the channel of an event belongs to whatever made the event. A process is the reader of a channel that it gets from or
-- waits on as empty, and the writer of one that it puts on or waits on as full. The caller feeds and closes sources,
-- and takes from sinks and leaves them
abbrev pub IsOwn : Tables → Event → Type 0
IsOwn t (Get p c v) = reader_of t c ≡ Process p
IsOwn t (Put p c v) = writer_of t c ≡ Process p
IsOwn t (WaitEmpty p c) = reader_of t c ≡ Process p
IsOwn t (WaitFull p c) = writer_of t c ≡ Process p
IsOwn t (Ended p how) = p < length t.instances
IsOwn t (Feed c v) = is_source (channel_at t c) ≡ true
IsOwn t (Close c) = is_source (channel_at t c) ≡ true
IsOwn t (Take c v) = is_sink (channel_at t c) ≡ true
IsOwn t (Leave c) = is_sink (channel_at t c) ≡ true
IsOwn t (Grow p d n) = p < length t.instances
