use denote.Param.Send.{sendable}
use Rattle.std.proofs.Crossing.{crosses}
use Rattle.kpn_pool.proofs.Sharing.{shared_sync, seat_send}
use Rattle.check_pool.proofs.working.both_work.Goals as goal

-- the worker that has this seat may be on another thread
pub join-requires-send-F : goal.join-requires-send-F
join-requires-send-F g c κs within = search (shared_sync, seat_send, crosses, sendable) depth 40
