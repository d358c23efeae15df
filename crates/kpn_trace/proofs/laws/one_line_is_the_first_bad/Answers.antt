-- The law is proved in Traces.
use Rattle.kpn_trace.proofs.Traces.{one_bad_line}
use Rattle.kpn_trace.proofs.laws.one_line_is_the_first_bad.Goals as goal

pub returns : goal.returns
returns c = one_bad_line
