-- As many are equal if each pair is.
use Rattle.kpn_net.proofs.Common.{rules, tests, YieldsList-from_slice, YieldsList-from_zip, cases_from_all, Alike, Differ}
use Rattle.kpn_net.proofs.Pairs.{same_pairs}
use Rattle.kpn_net.proofs.network.equality.same_programs.Goals as goal

pub returns-then-left-right : goal.returns-then-left-right
returns-then-left-right c =
    let left = c.args.left.now in
    let right = c.args.right.now in
    same_pairs left right c.all.result c.if-left-right.true
    (cases_from_all c.all.new.self _ c.all.result (Alike (λ x. x)) (Differ (λ x. x)) c.all.ensures.ran
    (YieldsList-from_zip (YieldsList-from_slice left (cc)) (YieldsList-from_slice right (cc)))
    (λ x q k. search (rules, tests)) (λ x q k. search (rules, tests)))
