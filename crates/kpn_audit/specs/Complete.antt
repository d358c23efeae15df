-- What an audit says of complete channels.
use Rattle.std.specs.Prelude.{◌≡◌, ◌↔◌, ℕ, ◌<◌, Bool, true, false, List, length, slice_index_or}
use Rattle.kpn_net.specs.Tables.{Tables}
use Rattle.kpn_history.specs.declared.event.Event.{Event}
use Rattle.kpn_history.specs.Complete.{IsComplete}

-- an entry for each channel, which says whether the channel is complete
pub record TellsComplete (t : Tables) (H : List Event) (complete : List Bool) : Type 0 where
  pub one_each : length complete ≡ length t.channels
  pub exact : (c : ℕ) → c < length t.channels → (slice_index_or complete c false ≡ true) ↔ IsComplete t H c
