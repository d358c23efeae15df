-- The events of each process in a history, and what the process said in them. A history is a list of events, oldest
-- first.
use Rattle.std.specs.Prelude.{ℕ, Bool, true, false, nat_eq, if◌then◌else◌, List, [], ◌∷◌, count_by, Option, None, Some}
use Rattle.std.specs.List.{filter, flat_map, list_any, last_or}
use Rattle.kpn_lang.specs.declared.value.Fault.{Fault}
use Rattle.kpn_lang.specs.declared.value.Fault.TheVariants as fault
use Rattle.kpn_lang.specs.declared.talk.Said.{Said}
use Rattle.kpn_lang.specs.declared.talk.Said.TheVariants as said
use Rattle.kpn_history.specs.declared.event.How.{How}
use Rattle.kpn_history.specs.declared.event.How.TheVariants as how
use Rattle.kpn_history.specs.declared.event.Event.{Event}
use Rattle.kpn_history.specs.declared.event.Event.TheVariants.{Get, Put, WaitEmpty, WaitFull, Ended, Feed, Close, Take, Leave, Grow}

-- the process whose event this is; those of the caller and growths are of no process
abbrev pub process_of : Event → Option ℕ
process_of (Get p c v) = Some p
process_of (Put p c v) = Some p
process_of (WaitEmpty p c) = Some p
process_of (WaitFull p c) = Some p
process_of (Ended p end) = Some p
process_of event = None

-- the channel of an event
abbrev pub channel_of : Event → Option ℕ
channel_of (Get p c v) = Some c
channel_of (Put p c v) = Some c
channel_of (WaitEmpty p c) = Some c
channel_of (WaitFull p c) = Some c
channel_of (Ended p end) = None
channel_of (Feed c v) = Some c
channel_of (Close c) = Some c
channel_of (Take c v) = Some c
channel_of (Leave c) = Some c
channel_of (Grow p c n) = Some c

-- the events of a process; those of the caller and growths are of no process
abbrev pub is_of : (p : ℕ) → Event → Bool
is_of p (Get q c v) = nat_eq q p
is_of p (Put q c v) = nat_eq q p
is_of p (WaitEmpty q c) = nat_eq q p
is_of p (WaitFull q c) = nat_eq q p
is_of p (Ended q end) = nat_eq q p
is_of p event = false

-- the event is of some process
abbrev pub is_of_process : Event → Bool
is_of_process (Get q c v) = true
is_of_process (Put q c v) = true
is_of_process (WaitEmpty q c) = true
is_of_process (WaitFull q c) = true
is_of_process (Ended q end) = true
is_of_process event = false

-- how many events of processes there are
abbrev pub process_events : List Event → ℕ
process_events H = count_by is_of_process H

-- the last event of a process, if it has one
abbrev pub last_event : List Event → (p : ℕ) → Option Event
last_event H p = last_or None (filter (is_of p) H)

-- what a process says in an event, with the channel in place of the port
abbrev pub said_in : (p : ℕ) → Event → List Said
said_in p (Get q c v) = if nat_eq q p then said.Got c v ∷ [] else []
said_in p (Put q c v) = if nat_eq q p then said.Put c v ∷ [] else []
said_in p event = []

-- the talk of a process: what it got and put, in order
abbrev pub talk_of : List Event → (p : ℕ) → List Said
talk_of H p = flat_map (said_in p) H

-- how a process with this fault ends
abbrev pub how_of : Fault → How
how_of fault.Overflow = how.Overflow
how_of fault.ZeroDivisor = how.ZeroDivisor
how_of fault.Index = how.Index
how_of fault.Shift = how.Shift

-- the process ends
abbrev pub is_end_of : (p : ℕ) → Event → Bool
is_end_of p (Ended q end) = nat_eq q p
is_end_of p event = false

-- the process has ended
abbrev pub has_ended : List Event → (p : ℕ) → Bool
has_ended H p = list_any (is_end_of p) H
