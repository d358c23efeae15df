-- The law is proved in Lines.
use Rattle.kpn_trace.proofs.Lines.{line_spells_one}
use Rattle.kpn_trace.proofs.laws.a_line_spells_one_event.Goals as goal

pub returns : goal.returns
returns c = line_spells_one
