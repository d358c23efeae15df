-- Each from its lemma.
use Rattle.kpn_step.proofs.After.{talk_said, next_said, end_reached}
use Rattle.kpn_step.proofs.laws.says_what_stands.Goals as goal

pub returns-clause-talk : goal.returns-clause-talk
returns-clause-talk c = talk_said

pub returns-clause-said : goal.returns-clause-said
returns-clause-said c = next_said

pub returns-clause-ended : goal.returns-clause-ended
returns-clause-ended c = end_reached
