-- What a commit does: the events that it appends and what it returns, by the stop of the steps that it commits.
use Rattle.std.specs.Prelude.{◌≡◌, ℕ, ◌⊎◌, true, false, ℤ, List, [], ◌∷◌, ◌++◌, Some}
use Rattle.kpn_net.specs.Tables.{Tables, instance_at, program_of}
use Rattle.kpn_step.specs.declared.stop.Stop.{Stop}
use Rattle.kpn_step.specs.declared.stop.Stop.TheVariants as stop
use Rattle.kpn_step.specs.Stops.{Advanced}
use Rattle.kpn_chan.specs.Channel.{unread, is_channel_full, next_item}
use Rattle.kpn_history.specs.declared.event.Event.{Event}
use Rattle.kpn_history.specs.declared.event.Event.TheVariants as event
use Rattle.kpn_history.specs.declared.event.How.{How}
use Rattle.kpn_history.specs.Legal.{OwesGrowth, growth_after}
use Rattle.kpn_history.specs.Stops.{OwesNothing}
use Rattle.kpn_machine.specs.Machine.{channel_in, frame_in}
use Rattle.kpn_machine.specs.Changes.{IsChannelAt}
use Rattle.kpn_machine.specs.Due.{stop_of}
use Rattle.kpn_book.specs.declared.answers.Done.{Done}
use Rattle.kpn_book.specs.declared.answers.Done.TheVariants as done
use Rattle.kpn_book.specs.Book.{Book, IsHeld, standing_at, put_back, with_one_commit}
use Rattle.kpn_book.specs.Appending.{AppendsAll, IsGrowthOwed}

-- ---- what a stop of process p asks for

-- it would read from channel c
pub record IsReadFrom (t : Tables) (p : ℕ) (s : Stop) (c : ℕ) : Type 0 where
  pub port : ℕ
  pub asks : s ≡ stop.WantRead port
  pub channel : IsChannelAt (instance_at t p).ins port c

-- it would write this item to channel c
pub record IsWriteTo (t : Tables) (p : ℕ) (s : Stop) (c : ℕ) (v : ℤ) : Type 0 where
  pub port : ℕ
  pub asks : s ≡ stop.WantWrite port v
  pub channel : IsChannelAt (instance_at t p).outs port c

-- ---- the events of a commit

-- it got this item, which was the next one of the channel that it would read
pub record CommitGets (b : Book) (p : ℕ) (s : Stop) (v : ℤ) (events : List Event) : Type 0 where
  pub channel : ℕ
  pub asks : IsReadFrom b.tables p s channel
  pub item : next_item (channel_in b.machine channel) ≡ Some v
  pub appends : events ≡ event.Get p channel v ∷ []

-- it put the item that it would write, on a channel that was not full
pub record CommitPuts (b : Book) (p : ℕ) (s : Stop) (events : List Event) : Type 0 where
  pub channel : ℕ
  pub item : ℤ
  pub asks : IsWriteTo b.tables p s channel item
  pub ready : is_channel_full (channel_in b.machine channel) ≡ false
  pub appends : events ≡ event.Put p channel item ∷ []

-- it has to wait: the channel that it would read is empty
pub record HasToWaitOnEmpty (b : Book) (p : ℕ) (s : Stop) (wait : Event) : Type 0 where
  pub channel : ℕ
  pub asks : IsReadFrom b.tables p s channel
  pub empty : unread (channel_in b.machine channel) ≡ []
  pub is : wait ≡ event.WaitEmpty p channel

-- it has to wait: the channel that it would write is full
pub record HasToWaitOnFull (b : Book) (p : ℕ) (s : Stop) (wait : Event) : Type 0 where
  pub channel : ℕ
  pub item : ℤ
  pub asks : IsWriteTo b.tables p s channel item
  pub full : is_channel_full (channel_in b.machine channel) ≡ true
  pub is : wait ≡ event.WaitFull p channel

-- it waits from now on, by this event
abbrev pub HasToWait : Book → (p : ℕ) → Stop → Event → Type 0
HasToWait b p s wait = HasToWaitOnEmpty b p s wait ⊎ HasToWaitOnFull b p s wait

-- it waits, and no growth is owed for this
pub record IsBlocked (b : Book) (p : ℕ) (s : Stop) (events : List Event) : Type 0 where
  pub wait : Event
  pub waits : HasToWait b p s wait
  pub nothing : OwesNothing b.tables (b.history ++ wait ∷ [])
  pub appends : events ≡ wait ∷ []

-- it waits, and the growth of channel d, which is then owed for some process, follows at once
pub record WaitsAndGrows (b : Book) (p : ℕ) (s : Stop) (d : ℕ) (events : List Event) : Type 0 where
  pub wait : Event
  pub waits : HasToWait b p s wait
  pub grower : ℕ
  pub owed : OwesGrowth b.tables (b.history ++ wait ∷ []) grower d
  pub appends : events ≡ wait ∷ growth_after b.tables (b.history ++ wait ∷ []) grower d ∷ []

-- it has ended, and the growth that is then owed follows at once
pub record Ends (b : Book) (p : ℕ) (s : Stop) (events : List Event) : Type 0 where
  pub how : How
  pub asks : s ≡ stop_of how
  pub growth : List Event
  pub owed : IsGrowthOwed b.tables (b.history ++ event.Ended p how ∷ []) growth
  pub appends : events ≡ event.Ended p how ∷ growth

-- it has made as many steps as it was allowed
pub record Pauses (s : Stop) (events : List Event) : Type 0 where
  pub asks : s ≡ stop.Paused
  pub appends : events ≡ []

-- what a commit of process p at this stop returns, and the events that it appends
abbrev pub IsAnswer : Book → (p : ℕ) → Stop → Done → List Event → Type 0
IsAnswer b p s (done.Got v) events = CommitGets b p s v events
IsAnswer b p s done.Put events = CommitPuts b p s events
IsAnswer b p s done.Blocked events = IsBlocked b p s events
IsAnswer b p s (done.Grew d) events = WaitsAndGrows b p s d events
IsAnswer b p s done.Ended events = Ends b p s events
IsAnswer b p s done.Paused events = Pauses s events

-- ---- the book after a commit

-- a process that has paused is ready again; the events say what all others are
abbrev pub ready_if_paused : (p : ℕ) → Done → Book → Book
ready_if_paused p done.Paused b = put_back p b
ready_if_paused p other b = b

-- the commit of process p at this stop: it is counted, and its events are appended
pub record HandlesStop (p : ℕ) (s : Stop) (answer : Done) (before after : Book) : Type 0 where
  pub events : List Event
  pub answers : IsAnswer before p s answer events
  pub appends : AppendsAll events (ready_if_paused p answer (with_one_commit before)) after

-- the steps began at the frame of process p and are steps of its program
pub record IsOwnAdvance (b : Book) (p : ℕ) (a : Advanced) : Type 0 where
  pub program : a.program ≡ program_of b.tables p
  pub from : a.from ≡ frame_in b.machine p

-- the commit of these steps of process p, which is held: the process goes to their end
pub record Commits (p : ℕ) (a : Advanced) (answer : Done) (before after : Book) : Type 0 where
  pub held : IsHeld before p
  pub own : IsOwnAdvance before p a
  pub handles : HandlesStop p a.stop answer (standing_at p a.to before) after
