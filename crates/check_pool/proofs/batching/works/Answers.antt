use denote.Param.Send.{sendable}
use Rattle.std.proofs.Crossing.{crosses}
use Rattle.kpn_pool.proofs.Sharing.{shared_sync}
use Rattle.check_pool.proofs.flag.Flag.TheSendSync as flag
use Rattle.check_pool.proofs.batching.Calls.TheSendSync as calls
use Rattle.check_pool.proofs.batching.works.Goals as goal

-- a gate may be asked by several threads
pub work-seat-requires-sync-G : goal.work-seat-requires-sync-G
work-seat-requires-sync-G g c κs within =
    search (shared_sync, calls.the_field_sync, flag.the_field_sync, crosses, sendable) depth 40
