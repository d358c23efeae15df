-- Each end that the clauses name is one that the items after the lists leave as it is.
use Rattle.kpn_lang.proofs.Families.{nil_from_grows}
use Rattle.kpn_lang.proofs.Processes.{talk_further, ends_alike}
use Rattle.kpn_lang.proofs.laws.longer_lists.Goals as goal

pub returns-clause-talk : goal.returns-clause-talk
returns-clause-talk c = talk_further

pub returns-clause-done : goal.returns-clause-done
returns-clause-done c process sequential n m le more lists longer g e =
    ends_alike process sequential n m le more lists longer g (rw e tt)

pub returns-clause-faulted : goal.returns-clause-faulted
returns-clause-faulted c process sequential n m le more lists longer g fault e =
    ends_alike process sequential n m le more lists longer g (rw e tt)

pub returns-clause-starved : goal.returns-clause-starved
returns-clause-starved c process sequential n m le more lists longer g port same e =
    ends_alike process sequential n m le more lists longer g (rw e (nil_from_grows more lists longer g port same))
