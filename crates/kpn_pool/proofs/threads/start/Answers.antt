use denote.Param.Send.{sendable}
use Rattle.std.proofs.Crossing.{crosses}
use Rattle.kpn_pool.proofs.Sharing.{shared_sync, seat_send}
use Rattle.kpn_pool.proofs.threads.start.Goals as goal

pub spawn-requires-send-F : goal.spawn-requires-send-F
spawn-requires-send-F g c κs within = search (shared_sync, seat_send, crosses, sendable) depth 40
