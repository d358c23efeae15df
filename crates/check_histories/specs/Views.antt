-- Views of worked histories.
use Rattle.std.specs.Prelude.{pos, false, true, List, [], ◌∷◌, Some, None}
use Rattle.std.specs.declared.alloc.Global.{Global}
use Rattle.kpn_history.specs.declared.event.How.TheVariants as how
use Rattle.kpn_history.specs.declared.event.Event.{Event}
use Rattle.kpn_history.specs.declared.event.Event.TheVariants.{Feed, Close, Leave}
use Rattle.kpn_history.specs.declared.state.State.TheVariants.{Ready, WaitsEmpty, WaitsFull, Ended}
use Rattle.kpn_history.specs.declared.state.View.{View}

-- the copy network once its source is fed and closed and its sink is left
unfoldable pub fed_closed_left : List Event
fed_closed_left = Feed 0 (pos 5) ∷ Close 0 ∷ Leave 1 ∷ []

unfoldable pub fed_closed_left_view : View Global
fed_closed_left_view = record {
  journals = (pos 5 ∷ []) ∷ [] ∷ [];
  read = 0 ∷ 0 ∷ [];
  caps = None ∷ Some 1 ∷ [];
  retired = false ∷ true ∷ [];
  states = Ready ∷ [];
  counts = record { ready = 1; held = 0; empty = 0; full = 0; ended = 0 };
}

-- two channels between two processes; both wait, and a growth is owed
unfoldable pub two_waiting_view : View Global
two_waiting_view = record {
  journals = (pos 1 ∷ []) ∷ [] ∷ [] ∷ [];
  read = 0 ∷ 0 ∷ 0 ∷ [];
  caps = Some 1 ∷ Some 1 ∷ Some 1 ∷ [];
  retired = false ∷ false ∷ false ∷ [];
  states = WaitsFull 0 ∷ WaitsEmpty 1 ∷ [];
  counts = record { ready = 0; held = 0; empty = 1; full = 1; ended = 0 };
}

-- the same once the first channel has grown, with the waits from before
unfoldable pub stale_waits_view : View Global
stale_waits_view = record {
  journals = (pos 1 ∷ []) ∷ [] ∷ [] ∷ [];
  read = 0 ∷ 0 ∷ 0 ∷ [];
  caps = Some 2 ∷ Some 1 ∷ Some 1 ∷ [];
  retired = false ∷ false ∷ false ∷ [];
  states = WaitsFull 0 ∷ WaitsEmpty 1 ∷ [];
  counts = record { ready = 0; held = 0; empty = 1; full = 1; ended = 0 };
}

-- the same with the writer woken, and the counts from before
unfoldable pub stale_counts_view : View Global
stale_counts_view = record {
  journals = (pos 1 ∷ []) ∷ [] ∷ [] ∷ [];
  read = 0 ∷ 0 ∷ 0 ∷ [];
  caps = Some 2 ∷ Some 1 ∷ Some 1 ∷ [];
  retired = false ∷ false ∷ false ∷ [];
  states = Ready ∷ WaitsEmpty 1 ∷ [];
  counts = record { ready = 1; held = 0; empty = 1; full = 1; ended = 0 };
}

-- the same once both have ended
unfoldable pub two_ended_view : View Global
two_ended_view = record {
  journals = (pos 1 ∷ pos 2 ∷ []) ∷ (pos 3 ∷ []) ∷ (pos 312 ∷ []) ∷ [];
  read = 2 ∷ 1 ∷ 1 ∷ [];
  caps = Some 2 ∷ Some 1 ∷ Some 1 ∷ [];
  retired = true ∷ true ∷ false ∷ [];
  states = Ended how.Done ∷ Ended how.Done ∷ [];
  counts = record { ready = 0; held = 0; empty = 0; full = 0; ended = 2 };
}
