-- Blocks of one length are equal if each pair of statements is.
use Rattle.kpn_lang.proofs.Common.{rules, tests, YieldsList-from_slice, YieldsList-from_zip, cases_from_all, statement_of}
use Rattle.kpn_lang.proofs.Pairs.{Alike, Differ, same_by_pairs}
use Rattle.kpn_lang.proofs.program.equality.same_block.Goals as goal

pub returns-then-left-right : goal.returns-then-left-right
returns-then-left-right c =
    let left = c.args.left.now in
    let right = c.args.right.now in
    same_by_pairs statement_of left right c.all.result c.if-left-right.true
    (cases_from_all c.all.new.self _ c.all.result (Alike statement_of) (Differ statement_of) c.all.ensures.ran
    (YieldsList-from_zip (YieldsList-from_slice left (cc)) (YieldsList-from_slice right (cc)))
    (λ x q k. search (rules, tests)) (λ x q k. search (rules, tests)))
