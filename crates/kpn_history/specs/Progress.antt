-- Progress: what a history has made of another one. Waits and ends count as made too, so that the growths that they
-- cause are made.
use Rattle.std.specs.Prelude.{◌≡◌, ℕ, ◌<◌, ◌≤◌, ◌⊎◌, true, List, [], ◌∷◌, ◌++◌, length, Some}
use Rattle.kpn_lang.specs.Prefix.{IsPrefix}
use Rattle.kpn_net.specs.Tables.{Tables, channel_at, is_source, is_sink}
use Rattle.kpn_history.specs.declared.event.Event.{Event}
use Rattle.kpn_history.specs.declared.event.Event.TheVariants.{WaitEmpty, WaitFull, Ended}
use Rattle.kpn_history.specs.Talks.{is_of, talk_of, last_event}
use Rattle.kpn_history.specs.Channels.{is_empty, is_closed}
use Rattle.kpn_history.specs.Ends.{HasStopped}
use Rattle.kpn_history.specs.OneEnd.{growths_of}

-- the event is a wait or an end
abbrev pub IsHalt : Event → Type 0
IsHalt (WaitEmpty p c) = Unit {0}
IsHalt (WaitFull p c) = Unit {0}
IsHalt (Ended p how) = Unit {0}
IsHalt event = ⊥

-- of process p the second history has made this event, with which p halts in the first one: it is the last event of p
-- there too, or p has said more
abbrev pub HasHalted : (B G : List Event) → (p : ℕ) → Event → Type 0
HasHalted B G p e = (length (talk_of B p) < length (talk_of G p)) ⊎ (last_event G p ≡ Some e)

-- the second history has made all that the first one has. Each process has said as much, and has come to its wait or
-- its end. Each channel has grown as often
pub record HasMade (t : Tables) (B G : List Event) : Type 0 where
  pub said : (p : ℕ) → p < length t.instances → IsPrefix (talk_of B p) (talk_of G p)
  pub halted : (p : ℕ) (e : Event) → p < length t.instances → last_event B p ≡ Some e → IsHalt e → HasHalted B G p e
  pub grown : (c : ℕ) → growths_of B c ≤ growths_of G c

-- the caller has caught up: each source is closed, and each sink is empty
pub record IsCaughtUp (t : Tables) (H : List Event) : Type 0 where
  pub closed : (c : ℕ) → is_source (channel_at t c) ≡ true → is_closed H c ≡ true
  pub taken : (c : ℕ) → is_sink (channel_at t c) ≡ true → is_empty H c ≡ true

-- between the first history and the second one process p has made an event, when the outside had nothing to do
pub record HasGone (t : Tables) (G now : List Event) (p : ℕ) : Type 0 where
  pub before : List Event
  pub event : Event
  pub own : is_of p event ≡ true
  pub later : IsPrefix G before
  pub served : IsCaughtUp t before
  pub within : IsPrefix (before ++ event ∷ []) now

-- between the first history and the second one process p had stopped, and the outside had nothing to do
pub record HadStopped (t : Tables) (G now : List Event) (p : ℕ) : Type 0 where
  pub then : List Event
  pub later : IsPrefix G then
  pub served : IsCaughtUp t then
  pub stopped : HasStopped t then p
  pub within : IsPrefix then now

-- it has had its turn: it has made an event, or had stopped
abbrev pub HasHadTurn : Tables → (G now : List Event) → (p : ℕ) → Type 0
HasHadTurn t G now p = HasGone t G now p ⊎ HadStopped t G now p
