-- A document has the names of a description.
use Rattle.std.proofs.Common.{subst}
use Rattle.kpn_text_names.specs.Once.{EachStandsOnce}
use Rattle.kpn_text.proofs.laws.names_stand_once.Goals as goal

pub returns : goal.returns
returns c d (text, spells) =
    subst (λ e. EachStandsOnce e.names) spells.is
    (c.names_stand_once.ensures d.language spells.tree spells.named spells.resolved)
