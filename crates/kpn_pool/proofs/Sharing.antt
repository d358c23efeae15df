-- A run's shared desk may be handed to threads. A search finds it for one type at a time, from the leaves up; in one
-- for all of them its count would be spent on the way.
use denote.RattleType.{RattleType}
use denote.Ref.{NamedLft}
use denote.Param.Send.{IsSend, IsSync, sendable}
use Rattle.std.proofs.Crossing.{crosses}
use Rattle.std.proofs.sync.ledger.Book.TheSendSync as total
use Rattle.std.proofs.sync.ledger.Share.TheSendSync as share
use Rattle.std.specs.contracts.alloc.Global as heap
use Rattle.std.specs.contracts.impls.GlobalAllocator.TheImpl.{ghosts}
use Rattle.std.specs.declared.sync.ledger.Ledger as ledger
use Rattle.circular_buffer.proofs.cells.Base.TheSendSync as base
use Rattle.circular_buffer.proofs.cells.Cells.TheSendSync as cells
use Rattle.circular_buffer.proofs.cells.Deed.TheSendSync as deed
use Rattle.kpn_chan.proofs.past.Past.TheSendSync as past
use Rattle.kpn_lang.proofs.syntax.Op.TheSendSync as op
use Rattle.kpn_lang.proofs.start.Start.TheSendSync as start
use Rattle.kpn_lang.proofs.link.Link.TheSendSync as link
use Rattle.kpn_lang.proofs.code.Round.TheSendSync as round
use Rattle.kpn_lang.proofs.spine.Links.TheLaws.TheKnot.{crosses as links_cross}
use Rattle.kpn_lang.proofs.path.Stages.TheLaws.TheKnot.{crosses as stages_cross}
use Rattle.kpn_lang.proofs.syntax.Expr.TheLaws.TheKnot.{crosses as trees_cross}
use Rattle.kpn_lang.specs.contracts.syntax.Expr as Expr
use Rattle.kpn_lang.specs.contracts.syntax.Stmt as Stmt
use Rattle.kpn_lang.specs.contracts.chain.Chain as Chain
use Rattle.kpn_lang.specs.contracts.celled.Celled as Celled
use Rattle.kpn_lang.specs.contracts.celled.Put as Put
use Rattle.kpn_lang.specs.contracts.code.Code as Code
use Rattle.kpn_lang.specs.contracts.codes.Coded as Coded
use Rattle.kpn_lang.specs.contracts.path.Stages as Stages
use Rattle.kpn_lang.specs.contracts.path.Path as Path
use Rattle.kpn_lang.specs.contracts.path.Stage as Stage
use Rattle.kpn_lang.specs.contracts.operand.Operand as Operand
use Rattle.kpn_lang.specs.contracts.operand.Pick as Pick
use Rattle.kpn_lang.specs.contracts.spine.Links as Links
use Rattle.kpn_lang.specs.contracts.spine.Spine as Spine
use Rattle.kpn_lang.specs.contracts.program.Program as Program
use Rattle.kpn_net.specs.contracts.network.Network as Network
use Rattle.kpn_step.specs.contracts.frame.Frame as Frame
use Rattle.kpn_chan.specs.contracts.channel.Channel as Channel
use Rattle.kpn_history.specs.contracts.history.History as History
use Rattle.kpn_machine.specs.contracts.machine.Machine as Machine
use Rattle.kpn_book.specs.contracts.schedule.Schedule as Schedule
use Rattle.kpn_book.specs.contracts.book.Book as Book
use Rattle.kpn_pool_desk.specs.contracts.desk.Desk as Desk
use Rattle.kpn_pool_desk.specs.contracts.seat.WorkerSeat as WorkerSeat
use Rattle.kpn_pool.specs.contracts.shared.Shared as Shared
use Rattle.kpn_pool_desk.specs.declared.job.Job as job

-- ---- a network, of which threads read

tree_sync : IsSync Expr.the_field.row
tree_sync = search (op.the_field_sync, trees_cross, crosses, sendable) depth 40

links_sync : IsSync Links.the_field.row
links_sync =
    search (op.the_field_sync, start.the_field_sync, link.the_field_sync, links_cross, crosses, sendable) depth 40

spine_sync : IsSync Spine.the_field.row
spine_sync = let links = links_sync in search (start.the_field_sync, crosses, sendable) depth 40

statement_sync : IsSync Stmt.the_field.row
statement_sync = let trees = tree_sync in search (crosses, sendable) depth 40

chain_sync : IsSync Chain.the_field.row
chain_sync =
    let spines = spine_sync in
    let trees = tree_sync in
    search (start.the_field_sync, link.the_field_sync, crosses, sendable) depth 40

pick_sync : IsSync Pick.the_field.row
pick_sync = let chains = chain_sync in search (crosses, sendable) depth 40

operand_sync : IsSync Operand.the_field.row
operand_sync = let chains = chain_sync in let picks = pick_sync in search (crosses, sendable) depth 40

stage_sync : IsSync Stage.the_field.row
stage_sync =
    let operands = operand_sync in
    search (op.the_field_sync, link.the_field_sync, crosses, sendable) depth 40

stages_sync : IsSync Stages.the_field.row
stages_sync =
    let operands = operand_sync in
    let stages = stage_sync in
    search (op.the_field_sync, stages_cross, crosses, sendable) depth 40

path_sync : IsSync Path.the_field.row
path_sync = let operands = operand_sync in let stages = stages_sync in search (crosses, sendable) depth 40

celled_sync : IsSync Celled.the_field.row
celled_sync = let paths = path_sync in let trees = tree_sync in search (crosses, sendable) depth 40

put_sync : IsSync Put.the_field.row
put_sync = let picks = pick_sync in let items = celled_sync in search (crosses, sendable) depth 40

-- a large enum, for which the search counts further
code_sync : IsSync Code.the_field.row
code_sync =
    let chains = chain_sync in
    let items = celled_sync in
    let puts = put_sync in
    search (round.the_field_sync, crosses, sendable) depth 40 fits 20000

coded_sync : IsSync Coded.the_field.row
coded_sync = let codes = code_sync in search (crosses, sendable) depth 40

program_sync : IsSync Program.the_field.row
program_sync =
    let statements = statement_sync in let codes = coded_sync in search (crosses, sendable) depth 40

pub network_sync : IsSync Network.the_field.row
network_sync = let programs = program_sync in search (crosses, sendable) depth 40

-- ---- a book, which goes from one to the other

history_send : IsSend (History.the_field heap.the_row ghosts).row
history_send = search (past.the_send, crosses, sendable) depth 40 fits 20000

frame_send : IsSend Frame.the_field.row
frame_send = search (crosses, sendable) depth 40

channel_send : IsSend (Channel.the_field heap.the_row ghosts).row
channel_send = search (past.the_send, base.the_field_send, cells.the_send, deed.the_send, crosses, sendable) depth 40

machine_send : IsSend (Machine.the_field heap.the_row ghosts).row
machine_send = let frame = frame_send in let channel = channel_send in search (crosses, sendable) depth 40

schedule_send : IsSend (Schedule.the_field heap.the_row ghosts).row
schedule_send = search (crosses, sendable) depth 40

pub book_send : (κ : NamedLft) → IsSend (Book.the_field κ heap.the_row ghosts).row
book_send κ =
    let network = network_sync in
    let history = history_send in
    let machine = machine_send in
    let schedule = schedule_send in
    search (crosses, sendable) depth 40

-- ---- a desk, and what is shared of it

module _ (κ : NamedLft) (J : RattleType) (g : job.Ghosts J.Denot) (l : ledger.Ghosts J.Denot) where
  desk_send : IsSend (Desk.the_field κ J heap.the_row g l ghosts).row
  desk_send = let book = book_send κ in search (total.the_send, crosses, sendable) depth 40 fits 20000

  pub shared_sync : IsSync (Shared.the_field κ J heap.the_row g l ghosts).row
  shared_sync = let desk = desk_send in search (crosses, sendable) depth 40

-- ---- a seat, which a thread is given and gives back

module _ (J : RattleType) (g : job.Ghosts J.Denot) (l : ledger.Ghosts J.Denot) where
  pub seat_send : IsSend (WorkerSeat.the_field J g l).row
  seat_send = search (share.the_send, crosses, sendable) depth 40
