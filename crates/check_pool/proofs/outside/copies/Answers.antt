use denote.Param.Send.{sendable}
use Rattle.std.proofs.Crossing.{crosses}
use Rattle.kpn_pool.proofs.Sharing.{shared_sync, seat_send}
use Rattle.check_pool.proofs.always.Always.TheSendSync as gate
use Rattle.check_pool.proofs.outside.copies.Goals as goal

-- the worker may be on another thread
pub join-seat-requires-send-F : goal.join-seat-requires-send-F
join-seat-requires-send-F g c κs within =
    search (shared_sync, seat_send, gate.the_field_sync, crosses, sendable) depth 40
