use denote.Param.Send.{sendable}
use Rattle.std.proofs.Crossing.{crosses}
use Rattle.kpn_pool.proofs.Sharing.{shared_sync, seat_send}
use Rattle.check_pool.proofs.flag.Flag.TheSendSync as flag
use Rattle.check_pool.proofs.locking.Door.TheSendSync as door
use Rattle.check_pool.proofs.locking.work_and_look.Goals as goal

-- the worker may be on another thread
pub join-seat-requires-send-F : goal.join-seat-requires-send-F
join-seat-requires-send-F g c κs within =
    search (shared_sync, seat_send, door.the_field_sync, flag.the_field_sync, crosses, sendable) depth 40
