-- Each from its lemma.
use Rattle.kpn_step.proofs.After.{IsAfter-start, IsAfter-advance, IsAfter-got, IsAfter-put}
use Rattle.kpn_step.proofs.laws.after_talk.Goals as goal

pub returns-clause-start : goal.returns-clause-start
returns-clause-start c = IsAfter-start

pub returns-clause-advance : goal.returns-clause-advance
returns-clause-advance c = IsAfter-advance

pub returns-clause-got : goal.returns-clause-got
returns-clause-got c = IsAfter-got

pub returns-clause-put : goal.returns-clause-put
returns-clause-put c = IsAfter-put
