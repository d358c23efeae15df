-- Orders of the events of two parts, and what they claim. In each part channel 0 is the source and channel 1 the sink.
use Rattle.std.specs.Prelude.{ℕ, pos, List, [], ◌∷◌}
use Rattle.kpn_net.specs.Tables.{Tables}
use Rattle.kpn_net.specs.Faults.{IsNetwork}
use Rattle.kpn_history.specs.declared.event.Event.{Event}
use Rattle.kpn_history.specs.declared.event.Event.TheVariants.{Get, Put, WaitEmpty, Feed, Close, Take}
use Rattle.kpn_parts.specs.declared.order.PartEvent.{PartEvent}
use Rattle.kpn_parts.specs.Cut.{Part, IsCut}
use Rattle.kpn_parts.specs.Joined.{IsJoined, IsDelivered, AreQuiet}

abbrev placed : (r : ℕ) → Event → PartEvent
placed r event = record { part = r; event = event }

-- the driver feeds the second part a copy of the item, and takes it from the first once the second has got it
unfoldable pub chain_order : List PartEvent
chain_order =
    placed 0 (Feed 0 (pos 5)) ∷ placed 0 (Close 0) ∷ placed 1 (WaitEmpty 0 0) ∷
    placed 0 (Get 0 0 (pos 5)) ∷ placed 0 (Put 0 1 (pos 5)) ∷ placed 1 (Feed 0 (pos 5)) ∷
    placed 0 (WaitEmpty 0 0) ∷ placed 1 (Get 0 0 (pos 5)) ∷ placed 0 (Take 1 (pos 5)) ∷
    placed 1 (Put 0 1 (pos 5)) ∷ placed 1 (Take 1 (pos 5)) ∷ placed 1 (WaitEmpty 0 0) ∷ []

-- the same events of the whole, in one piece
unfoldable pub chain_run : List Event
chain_run =
    Feed 0 (pos 5) ∷ Close 0 ∷ WaitEmpty 1 1 ∷ Get 0 0 (pos 5) ∷ Put 0 1 (pos 5) ∷ WaitEmpty 0 0 ∷
    Get 1 1 (pos 5) ∷ Put 1 2 (pos 5) ∷ Take 2 (pos 5) ∷ WaitEmpty 1 1 ∷ []

-- each part is fed an item that the other puts only after it was fed the item
unfoldable pub ring_order : List PartEvent
ring_order =
    placed 0 (Feed 0 (pos 7)) ∷ placed 0 (Get 0 0 (pos 7)) ∷ placed 0 (Put 0 1 (pos 7)) ∷
    placed 0 (Take 1 (pos 7)) ∷ placed 0 (WaitEmpty 0 0) ∷
    placed 1 (Feed 0 (pos 7)) ∷ placed 1 (Get 0 0 (pos 7)) ∷ placed 1 (Put 0 1 (pos 7)) ∷
    placed 1 (Take 1 (pos 7)) ∷ placed 1 (WaitEmpty 0 0) ∷ []

-- the driver sends the second part the same item twice
unfoldable pub twice_order : List PartEvent
twice_order =
    placed 0 (Feed 0 (pos 5)) ∷ placed 0 (Get 0 0 (pos 5)) ∷ placed 0 (Put 0 1 (pos 5)) ∷
    placed 1 (Feed 0 (pos 5)) ∷ placed 1 (Feed 0 (pos 5)) ∷ []

-- a joined run of a network in parts, in which all parts come to rest with nothing on the way
pub record ComesToRest (t : Tables) (cut : List Part) (order : List PartEvent) : Type 0 where
  pub network : IsNetwork t
  pub cut_up : IsCut t cut
  pub joined : IsJoined t cut order
  pub quiet : AreQuiet cut order
  pub delivered : IsDelivered t cut order
