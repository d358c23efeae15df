use Rattle.std.proofs.Common.{sym, ◌∙◌, inr}
use Rattle.kpn_stream.proofs.Moments.{awaits}
use Rattle.kpn_stream.proofs.reading.is_awaited.Goals as goal

pub returns-clause-awaited : goal.returns-clause-awaited
returns-clause-awaited c = λ is. awaits c.args.book.now c.known.ensures c.args.c (sym c.is_awaited.ensures ∙ is)

pub returns-clause-unwanted : goal.returns-clause-unwanted
returns-clause-unwanted c = λ is. inr (sym c.is_awaited.ensures ∙ is)
