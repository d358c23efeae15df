-- The items after a beginning are the rest of the longer list.
use Rattle.kpn_lang.proofs.Families.{added, Grows-from_prefixes, ArePrefixes-from_grows}
use Rattle.kpn_lang.proofs.laws.lists_that_grow.Goals as goal

pub returns-clause-added : goal.returns-clause-added
returns-clause-added c lists longer p = (added lists longer p, Grows-from_prefixes lists longer p)

pub returns-clause-prefixes : goal.returns-clause-prefixes
returns-clause-prefixes c = ArePrefixes-from_grows
