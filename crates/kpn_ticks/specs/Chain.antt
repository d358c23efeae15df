-- Why a run takes as long as it does: a longest chain of gets and puts, one for each tick. None could begin earlier,
-- because of the one before it in the chain.
use Rattle.std.specs.Prelude.{ℕ, ◌+◌, ◌-◌, nat_eq, nat_lt, if◌then◌else◌, ◌&&◌, true, List, [], ◌∷◌, ◌++◌, length, fold, replicate, take_while, Option, Some, None, slice_index_or, slice_set}
use Rattle.kpn_net.specs.declared.tables.End.{End}
use Rattle.kpn_net.specs.declared.tables.End.TheVariants.{Process}
use Rattle.kpn_net.specs.Tables.{Tables, writer_of, reader_of}
use Rattle.kpn_history.specs.declared.event.Event.{Event}
use Rattle.kpn_history.specs.declared.event.Event.TheVariants.{Get, Put}
use Rattle.kpn_ticks.specs.declared.moves.WaitCause.{WaitCause}
use Rattle.kpn_ticks.specs.declared.moves.WaitCause.TheVariants.{Own, Item, Room}
use Rattle.kpn_ticks.specs.declared.moves.Move.{Move}
use Rattle.kpn_ticks.specs.Ticks.{Clocks, latest_of, get_tick, put_tick, clocks_with_event, start}

-- ---- gets and puts

-- what a get or put waited for: the one of its process before it, if that is at the tick before; else its item or room
abbrev pub wait_cause : (latest tick : ℕ) (other : WaitCause) → WaitCause
wait_cause latest tick other = if nat_eq (tick - latest) 1 then Own else other

abbrev pub move_at : (p latest tick : ℕ) (other : WaitCause) → Move
move_at p latest tick other = record { process = p; tick = tick; cause = wait_cause latest tick other }

-- the get or put that an event is, if it is one
abbrev pub move_of : Tables → Clocks → Event → Option Move
move_of t s (Get p c v) = Some (move_at p (latest_of s p) (get_tick s p c) (Item c))
move_of t s (Put p c v) = Some (move_at p (latest_of s p) (put_tick t s p c) (Room c))
move_of t s event = None

abbrev pub with_move : List Move → Option Move → List Move
with_move moves None = moves
with_move moves (Some m) = moves ++ m ∷ []

-- the clocks after some events, and the gets and puts among these
pub record Course : Type 0 where
  pub clocks : Clocks
  pub moves : List Move

abbrev pub course_then : Tables → Course → Event → Course
course_then t x event =
    record { clocks = clocks_with_event t x.clocks event; moves = with_move x.moves (move_of t x.clocks event) }

abbrev pub course_of : Tables → List Event → Course
course_of t events = fold (course_then t) (record { clocks = start t true; moves = [] }) events

-- ---- the chain

-- the process at an end, or else this one
abbrev pub process_or : End → (p : ℕ) → ℕ
process_or (Process q) p = q
process_or end p = p

-- the process that writes a channel, or else this one
abbrev pub writer_or : Tables → (c p : ℕ) → ℕ
writer_or t c p = if nat_lt c (length t.channels) then process_or (writer_of t c) p else p

abbrev pub reader_or : Tables → (c p : ℕ) → ℕ
reader_or t c p = if nat_lt c (length t.channels) then process_or (reader_of t c) p else p

-- for whom a get or put of process p waited: for p itself, for the writer of its item, or for the reader that made room
abbrev pub awaited_process : Tables → (p : ℕ) → WaitCause → ℕ
awaited_process t p Own = p
awaited_process t p (Item c) = writer_or t c p
awaited_process t p (Room c) = reader_or t c p

-- a walk along the chain from its end: next comes the get or put of this process at this tick. The share of a process
-- is how many of those that came are its own
pub record Walk : Type 0 where
  pub process : ℕ
  pub tick : ℕ
  pub shares : List ℕ

abbrev pub walk_past : Tables → Walk → Move → Walk
walk_past t w m =
    let p = m.process in
    record {
      process = awaited_process t p m.cause;
      tick = w.tick - 1;
      shares = slice_set w.shares p (slice_index_or w.shares p 0 + 1);
    }

abbrev pub walk_then : Tables → Walk → Move → Walk
walk_then t w m = if nat_eq m.process w.process && nat_eq m.tick w.tick then walk_past t w m else w

-- from the last of these back to the first
abbrev pub walk_back : Tables → Walk → List Move → Walk
walk_back t w [] = w
walk_back t w (m ∷ moves) = walk_then t (walk_back t w moves) m

-- the first process whose latest get or put has the last tick of all
abbrev pub last_process : Clocks → ℕ
last_process s = length (take_while (λ tick. nat_lt tick s.last) s.latest)

abbrev pub walk_start : Tables → Clocks → Walk
walk_start t s = record { process = last_process s; tick = s.last; shares = replicate (length t.instances) 0 }

-- how many of the ticks of the chain are gets and puts of each process
abbrev pub shares_of : Tables → List Event → List ℕ
shares_of t events =
    let x = course_of t events in (walk_back t (walk_start t x.clocks) x.moves).shares
