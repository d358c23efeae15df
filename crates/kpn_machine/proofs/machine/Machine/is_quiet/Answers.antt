use Rattle.std.proofs.Common.{sym, ◌∙◌, arith}
use Rattle.kpn_machine.proofs.Growing.{both}
use Rattle.kpn_machine.proofs.Moments.{quiet_now}
use Rattle.kpn_machine.proofs.Verdicts.{quiet_yes, quiet_no}
use Rattle.kpn_machine.proofs.machine.Machine.is_quiet.Goals as goal

pub returns-then-not-is_quiet_at : goal.returns-then-not-is_quiet_at
returns-then-not-is_quiet_at g c =
    let exact =
    quiet_no c.args.network.now c.args.self.now c.loop-p.p (let n = c.instances-p-end.ensures in omega arith)
    (sym c.is_quiet_at.ensures ∙ c.if-not-is_quiet_at.true) in
    record {
      exact = exact;
      history = λ H run. both exact (quiet_now c.args.network.now c.known.ensures H c.args.self.now run);
    }

pub returns : goal.returns
returns g c =
    let exact =
    quiet_yes c.args.network.now c.args.self.now
    (λ p there. c.loop-p.invariant p (let n = c.instances-p-end.ensures in omega arith)) in
    record {
      exact = exact;
      history = λ H run. both exact (quiet_now c.args.network.now c.known.ensures H c.args.self.now run);
    }
