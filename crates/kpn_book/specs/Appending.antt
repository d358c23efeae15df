-- A book after one more event: the event changes the machine and the schedule. After some events a growth is
-- owed, and it is appended at once.
use Rattle.std.specs.Prelude.{◌≡◌, ℕ, List, [], ◌∷◌, ◌++◌}
use Rattle.std.specs.List.{filter_map}
use Rattle.std.specs.Option.{option_to_list}
use Rattle.kpn_net.specs.declared.wait.Wait.{Wait}
use Rattle.kpn_net.specs.Tables.{Tables, instance_at, larger_capacity}
use Rattle.kpn_history.specs.declared.event.Event.{Event}
use Rattle.kpn_history.specs.declared.event.Event.TheVariants as event
use Rattle.kpn_history.specs.declared.state.State.TheVariants as state
use Rattle.kpn_history.specs.Channels.{capacity_or_zero}
use Rattle.kpn_history.specs.Legal.{OwesGrowth}
use Rattle.kpn_history.specs.Stops.{OwesNothing}
use Rattle.kpn_machine.specs.Changes.{Changes}
use Rattle.kpn_machine.specs.Woken.{waiting_writer, waiting_reader}
use Rattle.kpn_book.specs.Schedule.{Schedule, made_ready, with_state}
use Rattle.kpn_book.specs.Book.{Book}

-- ---- the schedule after an event

-- what an event does to the process that made it: the process is ready again, waits or has ended
abbrev pub own_part : Event → Schedule → Schedule
own_part (event.Get p c v) s = made_ready p s
own_part (event.Put p c v) s = made_ready p s
own_part (event.WaitEmpty p c) s = with_state p (state.WaitsEmpty c) s
own_part (event.WaitFull p c) s = with_state p (state.WaitsFull c) s
own_part (event.Ended p how) s = with_state p (state.Ended how) s
own_part e s = s

-- which processes an event wakes, in the order in which they become ready, by what each process waits for: the writer
-- of a channel that is read, left or grows, if it waits on it as full; the reader of a channel that gets an item, if it
-- waits on it as empty; at the end of a process the writers of the channels that it reads, in order of port, if they
-- wait on them as full
abbrev pub woken_by : Tables → List Wait → Event → List ℕ
woken_by t waits (event.Get p c v) = option_to_list (waiting_writer t waits c)
woken_by t waits (event.Put p c v) = option_to_list (waiting_reader t waits c)
woken_by t waits (event.Ended p how) = filter_map (waiting_writer t waits) (instance_at t p).ins
woken_by t waits (event.Feed c v) = option_to_list (waiting_reader t waits c)
woken_by t waits (event.Take c v) = option_to_list (waiting_writer t waits c)
woken_by t waits (event.Leave c) = option_to_list (waiting_writer t waits c)
woken_by t waits (event.Grow p c n) = option_to_list (waiting_writer t waits c)
woken_by t waits e = []

-- these processes become ready, in this order at the tail of the queue
abbrev pub all_made_ready : List ℕ → Schedule → Schedule
all_made_ready [] s = s
all_made_ready (p ∷ ps) s = all_made_ready ps (made_ready p s)

-- the process of the event moves first, then those that the event wakes
abbrev pub schedule_after : Tables → List Wait → Event → Schedule → Schedule
schedule_after t waits e s = all_made_ready (woken_by t waits e) (own_part e s)

-- ---- the book after an event

-- the second book is the first with one more event
pub record Appends (e : Event) (before after : Book) : Type 0 where
  pub tables : after.tables ≡ before.tables
  pub history : after.history ≡ before.history ++ e ∷ []
  pub machine : Changes before.tables e before.machine after.machine
  pub schedule : after.schedule ≡ schedule_after before.tables before.machine.waits e before.schedule
  pub commits : after.commits ≡ before.commits
  pub keeps_events : after.keeps_events ≡ before.keeps_events

-- the second book is the first with these events more, one after the other
abbrev pub AppendsAll : List Event → (before after : Book) → Type 0
AppendsAll [] before after = after ≡ before
AppendsAll (e ∷ events) before after = (between : Book) × Appends e before between × AppendsAll events between after

-- ---- events, and the growths that are owed

-- the growth that is owed after a history: none, or this event, which has the new capacity of the channel
abbrev pub IsGrowthOwed : Tables → List Event → (growth : List Event) → Type 0
IsGrowthOwed t H [] = OwesNothing t H
IsGrowthOwed t H (event.Grow p d n ∷ []) =
    OwesGrowth t H p d × (n ≡ larger_capacity t (capacity_or_zero t H d))
IsGrowthOwed t H growth = ⊥

-- the event happens: it is appended, and so is the growth that is then owed
pub record Happens (e : Event) (before after : Book) : Type 0 where
  pub growth : List Event
  pub owed : IsGrowthOwed before.tables (before.history ++ e ∷ []) growth
  pub appends : AppendsAll (e ∷ growth) before after

-- these events happen, one after the other
abbrev pub AllHappen : List Event → (before after : Book) → Type 0
AllHappen [] before after = after ≡ before
AllHappen (e ∷ events) before after = (between : Book) × Happens e before between × AllHappen events between after
