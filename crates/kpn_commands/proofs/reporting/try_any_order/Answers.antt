use Rattle.kpn_commands.proofs.Common.{◌≡◌, ◌≤◌, length, subst, arith, rules, Limits, Stopped, IsReport}
use Rattle.kpn_commands.proofs.AnyOrder.{same_report, fewer_commits}
use Rattle.kpn_commands.proofs.reporting.try_any_order.Goals as goal

pub returns-clause-report : goal.returns-clause-report
returns-clause-report c =
    let report = c.in_ok-report.report in
    let other : report.outcome ≡ Stopped → ⊥ = search rules in
    same_report c.args.network.now c.args.lists.now (length c.args.network.now.instances) c.args.limits.now report other
    (subst (λ l. IsReport c.args.network.now c.args.lists.now l report) c.limits_in_any_order-fewer.ensures
    c.in_ok-report.ensures.report)

pub returns-clause-commits : goal.returns-clause-commits
returns-clause-commits c =
    let most = fewer_commits (length c.args.network.now.instances) c.args.limits.now in
    let within =
    subst (λ (l : Limits). c.in_ok-report.report.commits ≤ l.commits) c.limits_in_any_order-fewer.ensures
    c.in_ok-report.ensures.commits in
    omega (arith, most, within)
