-- By the text that spells it.
use Rattle.kpn_text.proofs.ReadingLaws.{seen_named}
use Rattle.kpn_text.proofs.document.Document.names.Goals as goal

pub returns-clause-named : goal.returns-clause-named
returns-clause-named c = seen_named _ c.args.self.now c.self.view_is c.self.invariant
