use Rattle.kpn_machine.proofs.Exact.{reader_there, gets_or_waits}
use Rattle.kpn_machine.proofs.laws.a_reader_is_there.Goals as goal

pub returns-clause-reader : goal.returns-clause-reader
returns-clause-reader c = reader_there

pub returns-clause-waits : goal.returns-clause-waits
returns-clause-waits c = gets_or_waits
