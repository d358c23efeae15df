-- What is found of an event is said of the events before it, and of the place where it stands.
use Rattle.kpn_audit.proofs.Common.{◌≡◌, pos, take, subst, arith, take_all, Get, none_owed_at_first, IsRun, Judged, ArePlaces, Owes, history_of}
use Rattle.kpn_audit.specs.declared.judged.Judged.TheVariants.{Follows, Illegal, Budget}
use Rattle.kpn_audit.proofs.Replaying.{IsReplayed, LeadsTo, leads_to, none_within, ok_apart}
use Rattle.kpn_audit.proofs.Telling.{told_there, is_there, history_of-length}
use Rattle.kpn_audit.proofs.auditor.replay.Given as given
use Rattle.kpn_audit.proofs.auditor.replay.Goals as goal
use Rattle.kpn_audit.proofs.auditor.replay.Goals.{In_ok-growth}

leads : (g : given.Over) (c : In_ok-growth g) (found : Judged) → c.in_ok-growth.field-0 ≡ found
    → LeadsTo c.args.network.now (history_of c.args.version c.args.network.now c.args.events.now) c.args.quota c.events.k
    c.judge.new.machine found
leads g c found is =
    let t = c.args.network.now in
    let v = c.args.version in
    let H = history_of v t c.args.events.now in
    let k = c.events.k in
    let s = c.events.machine in
    let after = c.judge.new.machine in
    let now = c.events.invariant in
    let e = c.told-event.result in
    let before : IsReplayed t H c.args.quota k s c.events.owed =
    record { run = now.run; owes = now.owes; places = now.places; within = now.within } in
    subst (λ j. LeadsTo t H c.args.quota k after j) is
    (leads_to t H c.args.quota k s after c.in_ok-growth.field-0 c.known.ensures
    (record {
      owed = c.events.owed;
      before = before;
      event = e;
      other = Get 0 0 (pos 0);
      there = is_there v t c.args.events.now k c.events-test.true;
      is = told_there v t c.args.events.now k (Get 0 0 (pos 0)) e c.events-test.true
          (c.told-event.ensures (take k H) now.run);
      found = c.in_ok-growth.ensures.judged (take k H) now.run now.owes;
      in_time = λ none enough.
          c.in_ok-growth.ensures.in_time none (ok_apart c.in_ok-growth.field-0 Budget enough);
    }))

pub returns-in-Illegal-clause-refused : goal.returns-in-Illegal-clause-refused
returns-in-Illegal-clause-refused g c =
    leads g (goal.at.returns-in-Illegal-clause-refused g c).In_ok-growth Illegal c.in-Illegal.is

pub returns-in-Budget-clause-refused : goal.returns-in-Budget-clause-refused
returns-in-Budget-clause-refused g c =
    leads g (goal.at.returns-in-Budget-clause-refused g c).In_ok-growth Budget c.in-Budget.is

pub events-preserved : goal.events-preserved
events-preserved g c =
    let then = leads g (goal.at.events-preserved g c).In_ok-growth (Follows c.in-Follows.growth) c.in-Follows.is in
    record { run = then.run; owes = then.owes; places = then.places; within = then.within }

pub events-init : goal.events-init
events-init g c =
    record {
      run = c.in_ok-machine.ensures.run;
      owes = none_owed_at_first c.args.network.now;
      places = c.in_ok-machine.ensures.frames;
      within = none_within c.args.network.now
          (history_of c.args.version c.args.network.now c.args.events.now) c.args.quota;
    }

pub told-event-requires : goal.told-event-requires
told-event-requires g c =
    record {
      run = (take c.events.k (history_of c.args.version c.args.network.now c.args.events.now), c.events.invariant.run);
    }

pub returns : goal.returns
returns g c =
    let t = c.args.network.now in
    let s = c.events.machine in
    let same = history_of-length c.args.version t c.args.events.now in
    let all = take_all c.events.k (history_of c.args.version t c.args.events.now) (omega (arith, same)) in
    record {
      run = subst (λ B. IsRun t B s) all c.events.invariant.run;
      owes = subst (λ B. Owes t B s c.events.owed) all c.events.invariant.owes;
      places = subst (λ B. ArePlaces t B s) all c.events.invariant.places;
      within = λ k below. c.events.invariant.within k (omega (arith, below, same));
      refused = tt;
    }
