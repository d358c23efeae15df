-- Histories whose events come in another order, as they do under another schedule.
use Rattle.std.specs.Prelude.{◌≡◌, ◌≢◌, ⊤, ℕ, ◌+◌, ◌<◌, Bool, List, ◌∷◌, ◌++◌, length, Option, Some, None, slice_index_or}
use Rattle.kpn_net.specs.Tables.{Tables}
use Rattle.kpn_history.specs.declared.event.Event.{Event}
use Rattle.kpn_history.specs.declared.event.Event.TheVariants.{Get, Put, Feed, Take, Grow}
use Rattle.kpn_history.specs.Talks.{process_of}
use Rattle.kpn_ticks.specs.Ticks.{Clocks, written_of, read_of, clocks_after}

-- ---- what could come next

-- an item is unread
abbrev pub HasItem : Clocks → (c : ℕ) → Type 0
HasItem s c = length (read_of s c) < length (written_of s c)

-- fewer items are unread than the capacity, if there is one
abbrev pub HasRoom : Clocks → (c : ℕ) → Type 0
HasRoom s c = (cap : ℕ) → slice_index_or s.capacities c None ≡ Some cap
    → length (written_of s c) < cap + length (read_of s c)

-- a get, put, feed or take could come next
abbrev pub CanBegin : Clocks → Event → Type 0
CanBegin s (Get p c v) = HasItem s c
CanBegin s (Put p c v) = HasRoom s c
CanBegin s (Feed c v) = ⊤
CanBegin s (Take c v) = HasItem s c
CanBegin s event = ⊥

-- ---- whose events they are

-- the channel to which an event adds an item
abbrev pub adds_to : Event → Option ℕ
adds_to (Put p c v) = Some c
adds_to (Feed c v) = Some c
adds_to event = None

-- the channel from which an event takes an item
abbrev pub takes_from : Event → Option ℕ
takes_from (Get p c v) = Some c
takes_from (Take c v) = Some c
takes_from event = None

-- they are not the same number
abbrev pub Differ : Option ℕ → Option ℕ → Type 0
Differ (Some m) (Some n) = m ≢ n
Differ m n = ⊤

-- they are not of one process, nor do both write one channel or both read one
pub record AreIndependent (event other : Event) : Type 0 where
  pub processes : Differ (process_of event) (process_of other)
  pub written : Differ (adds_to event) (adds_to other)
  pub read : Differ (takes_from event) (takes_from other)

-- ---- reordered histories

-- each of these two could come first
pub record CanChange (s : Clocks) (event other : Event) : Type 0 where
  pub first : CanBegin s event
  pub second : CanBegin s other
  pub apart : AreIndependent event other

-- a wait, an end, a close or a leave
abbrev pub IsIdle : Event → Type 0
IsIdle (Get p c v) = ⊥
IsIdle (Put p c v) = ⊥
IsIdle (Feed c v) = ⊥
IsIdle (Take c v) = ⊥
IsIdle (Grow p c n) = ⊥
IsIdle event = ⊤

-- the one history comes from the other: neighbours of which each could come first change places, and idle events come
-- in or go out
pub data AreReordered (t : Tables) (has_capacities : Bool) (H : List Event) : List Event → Type 0 where
  same : AreReordered t has_capacities H H
  changed : (B : List Event) (event other : Event) (more : List Event) →
      AreReordered t has_capacities H (B ++ event ∷ other ∷ more) →
      CanChange (clocks_after t has_capacities B) event other →
      AreReordered t has_capacities H (B ++ other ∷ event ∷ more)
  with_idle : (B : List Event) (event : Event) (more : List Event) → AreReordered t has_capacities H (B ++ more) →
      IsIdle event → AreReordered t has_capacities H (B ++ event ∷ more)
  without_idle : (B : List Event) (event : Event) (more : List Event) →
      AreReordered t has_capacities H (B ++ event ∷ more) → IsIdle event →
      AreReordered t has_capacities H (B ++ more)
