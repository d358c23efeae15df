-- With nothing after the lists a run that goes further says more.
use Rattle.kpn_lang.proofs.Processes.{talk_of_more_turns}
use Rattle.kpn_lang.proofs.laws.more_turns.Goals as goal

pub returns-clause-talk : goal.returns-clause-talk
returns-clause-talk c = talk_of_more_turns
