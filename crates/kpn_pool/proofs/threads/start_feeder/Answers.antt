use denote.Param.Send.{IsSend, sendable}
use Rattle.std.proofs.Crossing.{crosses}
use Rattle.std.specs.contracts.alloc.Global as heap
use Rattle.std.specs.contracts.impls.GlobalAllocator.TheImpl.{ghosts}
use Rattle.kpn_chan.proofs.past.Past.TheSendSync as past
use Rattle.kpn_pool_desk.specs.contracts.outside_seats.SourceSeat as SourceSeat
use Rattle.kpn_pool.proofs.Sharing.{shared_sync}
use Rattle.kpn_pool.proofs.threads.start_feeder.Goals as goal

source_send : IsSend (SourceSeat.the_field heap.the_row ghosts).row
source_send = search (past.the_send, crosses, sendable) depth 40

pub spawn-requires-send-F : goal.spawn-requires-send-F
spawn-requires-send-F g c κs within = search (shared_sync, source_send, crosses, sendable) depth 40
