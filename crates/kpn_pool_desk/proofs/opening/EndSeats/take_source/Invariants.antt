use Rattle.kpn_pool_desk.proofs.Common.{◌≡◌, ◌≢◌, take, All, EndSeat}
use Rattle.kpn_pool_desk.proofs.opening.EndSeats.take_source.Given as goal

abbrev pub invariant-seats : goal.invariant-seats
invariant-seats g l = record {
  same : l.self ≡ l.fn.self;
  none : All (λ (seat : EndSeat). seat.channel ≢ l.channel) (take l.i l.fn.self.sources.items);
}
