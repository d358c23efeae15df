-- When the gets and puts of a history take place, as `kpn stats` tells it.
use Rattle.std.specs.Prelude.{◌≡◌, Bool, true, false, List, length, count_by}
use Rattle.kpn_net.specs.Tables.{Tables}
use Rattle.kpn_history.specs.declared.event.Event.{Event}
use Rattle.kpn_history.specs.declared.event.Event.TheVariants.{Get, Put}
use Rattle.kpn_ticks.specs.Ticks.{clocks_after}
use Rattle.kpn_ticks.specs.Chain.{shares_of}
use Rattle.kpn_ticks.specs.Shown.{shown}
use Rattle.kpn_command_views.specs.declared.times.HistoryTimes.{HistoryTimes}

-- a process gets or puts an item
abbrev pub is_move : Event → Bool
is_move (Get p c v) = true
is_move (Put p c v) = true
is_move event = false

-- the clocks with the capacities of the network and without any; the shares of a longest chain; how many events and how
-- many gets and puts there are
pub record AreTimes (t : Tables) (H : List Event) (times : HistoryTimes) : Type 0 where
  pub bounded : shown times.bounded ≡ clocks_after t true H
  pub free : shown times.free ≡ clocks_after t false H
  pub shares : times.shares.items ≡ shares_of t H
  pub events : times.events ≡ length H
  pub moves : times.moves ≡ count_by is_move H
