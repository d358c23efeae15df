-- Why a call is refused, and what the calls of the outside do if they are not.
use Rattle.std.specs.Prelude.{◌≡◌, ◌≢◌, ℕ, ◌≤◌, Bool, true, false, ℤ, [], length, Option, Some, None}
use Rattle.kpn_net.specs.Tables.{channel_at, is_source, is_sink}
use Rattle.kpn_step.specs.declared.stop.Stop.TheVariants as stop
use Rattle.kpn_step.specs.Stops.{Advanced}
use Rattle.kpn_chan.specs.Channel.{ChannelState, unread, next_item}
use Rattle.kpn_history.specs.declared.event.Event.TheVariants as event
use Rattle.kpn_machine.specs.Machine.{channel_in, closed_in}
use Rattle.kpn_book.specs.declared.answers.Refused.{Refused}
use Rattle.kpn_book.specs.declared.answers.Refused.TheVariants.{NotHeld, Stranger, NoMemory, NoSuchEnd, SourceClosed, Full, SinkLeft}
use Rattle.kpn_book.specs.Book.{Book, IsHeld}
use Rattle.kpn_book.specs.Appending.{Appends, Happens}
use Rattle.kpn_book.specs.Commits.{IsOwnAdvance}

-- ---- why

-- a commit: the process is not held, the steps are not its own, or memory ran out; a pause takes no memory
abbrev pub RefusesCommit : (p : ℕ) → Advanced → Book → Refused → Type 0
RefusesCommit p a b NotHeld = ¬ IsHeld b p
RefusesCommit p a b Stranger = IsHeld b p × (¬ IsOwnAdvance b p a)
RefusesCommit p a b NoMemory = IsHeld b p × IsOwnAdvance b p a × (a.stop ≢ stop.Paused)
RefusesCommit p a b other = ⊥

-- putting a process back
abbrev pub RefusesPutBack : (p : ℕ) → Book → Refused → Type 0
RefusesPutBack p b NotHeld = ¬ IsHeld b p
RefusesPutBack p b other = ⊥

-- an open source
pub record IsOpenSource (b : Book) (c : ℕ) : Type 0 where
  pub source : is_source (channel_at b.tables c) ≡ true
  pub not_closed : closed_in b.machine c ≡ false

-- its reader has not ended, and at least this many items are unread
pub record IsAtBound (channel : ChannelState) (bound : ℕ) : Type 0 where
  pub lives : channel.is_retired ≡ false
  pub reached : bound ≤ length (unread channel)

-- an open source whose bound is not reached: a feed succeeds if there is memory
abbrev pub AcceptsItem : (c : ℕ) → (bound : ℕ) → Book → Type 0
AcceptsItem c bound b = IsOpenSource b c × (¬ IsAtBound (channel_in b.machine c) bound)

-- feeding a source: no source has this number, it is closed, its bound is reached, or memory ran out
abbrev pub RefusesFeed : (c : ℕ) → (item : ℤ) → (bound : ℕ) → Book → Refused → Type 0
RefusesFeed c item bound b NoSuchEnd = is_source (channel_at b.tables c) ≡ false
RefusesFeed c item bound b SourceClosed =
    (is_source (channel_at b.tables c) ≡ true) × (closed_in b.machine c ≡ true)
RefusesFeed c item bound b (Full v) =
    IsOpenSource b c × IsAtBound (channel_in b.machine c) bound × (v ≡ item)
RefusesFeed c item bound b NoMemory = AcceptsItem c bound b
RefusesFeed c item bound b other = ⊥

-- closing a source: no source has this number, or memory ran out, which can be only if it is open
abbrev pub RefusesClose : (c : ℕ) → Book → Refused → Type 0
RefusesClose c b NoSuchEnd = is_source (channel_at b.tables c) ≡ false
RefusesClose c b NoMemory = IsOpenSource b c
RefusesClose c b other = ⊥

-- a sink that was not left
pub record IsOpenSink (b : Book) (c : ℕ) : Type 0 where
  pub sink : is_sink (channel_at b.tables c) ≡ true
  pub not_left : (channel_in b.machine c).is_retired ≡ false

-- taking from a sink: no sink has this number, it was left, or memory ran out, which can be only if an item is unread
abbrev pub RefusesTake : (c : ℕ) → Book → Refused → Type 0
RefusesTake c b NoSuchEnd = is_sink (channel_at b.tables c) ≡ false
RefusesTake c b SinkLeft =
    (is_sink (channel_at b.tables c) ≡ true) × ((channel_in b.machine c).is_retired ≡ true)
RefusesTake c b NoMemory = IsOpenSink b c × (unread (channel_in b.machine c) ≢ [])
RefusesTake c b other = ⊥

-- leaving a sink: no sink has this number, or memory ran out, which can be only if it was not left
abbrev pub RefusesLeave : (c : ℕ) → Book → Refused → Type 0
RefusesLeave c b NoSuchEnd = is_sink (channel_at b.tables c) ≡ false
RefusesLeave c b NoMemory = IsOpenSink b c
RefusesLeave c b other = ⊥

-- ---- what they do

-- the item is fed to an open source whose bound is not reached
pub record Feeds (c : ℕ) (item : ℤ) (bound : ℕ) (before after : Book) : Type 0 where
  pub source : IsOpenSource before c
  pub below : ¬ IsAtBound (channel_in before.machine c) bound
  pub appends : Appends (event.Feed c item) before after

-- a closed source stays as it is, and nothing is appended
abbrev pub closes_by : (closed : Bool) → (c : ℕ) → (before after : Book) → Type 0
closes_by true c before after = after ≡ before
closes_by false c before after = Happens (event.Close c) before after

-- the source is closed, once
pub record Closes (c : ℕ) (before after : Book) : Type 0 where
  pub source : is_source (channel_at before.tables c) ≡ true
  pub closes : closes_by (closed_in before.machine c) c before after

-- the next item is taken, or nothing is unread and nothing changes
abbrev pub takes_item : (c : ℕ) → Option ℤ → (before after : Book) → Type 0
takes_item c None before after = (unread (channel_in before.machine c) ≡ []) × (after ≡ before)
takes_item c (Some v) before after =
    (next_item (channel_in before.machine c) ≡ Some v) × Happens (event.Take c v) before after

-- what is taken from a sink that was not left
pub record Takes (c : ℕ) (item : Option ℤ) (before after : Book) : Type 0 where
  pub sink : IsOpenSink before c
  pub takes : takes_item c item before after

-- a sink that was left stays as it is, and nothing is appended
abbrev pub leaves_by : (left : Bool) → (c : ℕ) → (before after : Book) → Type 0
leaves_by true c before after = after ≡ before
leaves_by false c before after = Happens (event.Leave c) before after

-- the sink is left, once
pub record Leaves (c : ℕ) (before after : Book) : Type 0 where
  pub sink : is_sink (channel_at before.tables c) ≡ true
  pub leaves : leaves_by (channel_in before.machine c).is_retired c before after
