-- With the more turns of the two both runs are one.
use Rattle.kpn_lang.proofs.Processes.{ComesTo-one, IsPrefix-comes_to, CanSay-comes_to, CanSay-prefix}
use Rattle.kpn_lang.proofs.laws.comes_to_one_end.Goals as goal

pub returns-clause-ending : goal.returns-clause-ending
returns-clause-ending c process sequential lists ending other talk said h k =
    (ComesTo-one process sequential lists ending other talk said h k).0

pub returns-clause-talk : goal.returns-clause-talk
returns-clause-talk c process sequential lists ending other talk said h k =
    (ComesTo-one process sequential lists ending other talk said h k).1

pub returns-clause-whole : goal.returns-clause-whole
returns-clause-whole c process sequential lists ending talk said h = (
  IsPrefix-comes_to process sequential lists ending talk said h,
  λ p. CanSay-prefix process sequential lists said talk p (CanSay-comes_to process sequential lists ending talk h),
)
