use Rattle.kpn_pool_desk.proofs.Common.{channel_at, is_source, is_sink, EndSeat}
use Rattle.kpn_pool_desk.proofs.Seating.{one_more}
use Rattle.kpn_pool_desk.proofs.opening.end_seats.Goals as goal

pub loop-c-preserved : goal.loop-c-preserved
loop-c-preserved g c = (
  one_more (λ (s : EndSeat). is_source (channel_at c.args.network.now s.channel)) c.loop-c.c _ _ c.loop-c.invariant.0
      c.in_ok-add_seat.ensures.sources,
  one_more (λ (s : EndSeat). is_sink (channel_at c.args.network.now s.channel)) c.loop-c.c _ _ c.loop-c.invariant.1
      c.in_ok-add_seat.ensures.sinks,
)
