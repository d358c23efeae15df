-- The events so far are a legal history, which leads to the machine and owes what is kept beside it, each
-- process stands at its place, and none of them was out of steps.
use Rattle.kpn_audit.proofs.Common.{take, IsRun, ArePlaces, Owes, AreWithinSteps, history_of}
use Rattle.kpn_audit.proofs.auditor.replay.Given as goal

abbrev pub invariant-events : goal.invariant-events
invariant-events g l =
    record {
      run : IsRun l.network (take l.k (history_of l.version l.network l.events)) l.machine;
      owes : Owes l.network (take l.k (history_of l.version l.network l.events)) l.machine l.owed;
      places : ArePlaces l.network (take l.k (history_of l.version l.network l.events)) l.machine;
      within : AreWithinSteps l.network (history_of l.version l.network l.events) l.quota l.k;
    }
