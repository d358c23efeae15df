-- The laws are proved in Traces.
use Rattle.kpn_trace.proofs.Traces.{trace_spells_one, spelled_is_read}
use Rattle.kpn_trace.proofs.laws.written_traces_read_back.Goals as goal

pub returns-clause-unique : goal.returns-clause-unique
returns-clause-unique g c = trace_spells_one

pub returns-clause-read : goal.returns-clause-read
returns-clause-read g c = spelled_is_read
