-- The run with the same number of turns ends alike on the longer lists.
use Rattle.kpn_lang.proofs.Processes.{ComesTo-done, ComesTo-faulted, ComesTo-starved}
use Rattle.kpn_lang.proofs.laws.comes_to_the_same.Goals as goal

pub returns-clause-done : goal.returns-clause-done
returns-clause-done c = ComesTo-done

pub returns-clause-faulted : goal.returns-clause-faulted
returns-clause-faulted c = ComesTo-faulted

pub returns-clause-starved : goal.returns-clause-starved
returns-clause-starved c = ComesTo-starved
