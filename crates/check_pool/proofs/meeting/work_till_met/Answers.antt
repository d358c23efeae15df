use denote.Param.Send.{sendable}
use Rattle.std.proofs.Crossing.{crosses}
use Rattle.kpn_pool.proofs.Sharing.{shared_sync}
use Rattle.check_pool.proofs.holding.Holding.TheSendSync as holding
use Rattle.check_pool.proofs.meeting.work_till_met.Goals as goal

-- both workers may ask the gate
pub both_work-first-requires-sync-G : goal.both_work-first-requires-sync-G
both_work-first-requires-sync-G g c κs within = search (shared_sync, holding.the_field_sync, crosses, sendable) depth 40
