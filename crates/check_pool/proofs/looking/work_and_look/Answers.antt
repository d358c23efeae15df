use denote.Param.Send.{sendable}
use Rattle.std.proofs.Crossing.{crosses}
use Rattle.kpn_pool.proofs.Sharing.{shared_sync, seat_send}
use Rattle.check_pool.proofs.always.Always.TheSendSync as gate
use Rattle.check_pool.proofs.looking.work_and_look.Goals as goal

-- the workers may be on another thread
pub join-seats-requires-send-F : goal.join-seats-requires-send-F
join-seats-requires-send-F g c κs within =
    search (shared_sync, seat_send, gate.the_field_sync, crosses, sendable) depth 40
