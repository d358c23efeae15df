use Rattle.kpn_machine.proofs.Ports.{reads_below, writes_below}
use Rattle.kpn_machine.proofs.Going.{reader_is_awake, writer_is_awake}
use Rattle.kpn_machine.proofs.laws.who_can_go_on_is_awake.Goals as goal

pub returns-clause-reads : goal.returns-clause-reads
returns-clause-reads c t network H s run p d v there reads =
    reader_is_awake t network H s run p there d (reads_below t network s p there d reads) v reads

pub returns-clause-writes : goal.returns-clause-writes
returns-clause-writes c t network H s run p d v there writes =
    writer_is_awake t network H s run p there d (writes_below t network s p there d v writes) v writes
