use Rattle.kpn_pool_desk.proofs.Common.{rules, ◌≡◌, true, get_or, arith, ◌∙◌, CommitsOrDrops}
use Rattle.kpn_pool_desk.proofs.Batches.{commits_on, one_more}
use Rattle.kpn_pool_desk.proofs.held_turns.commit_each.Goals as goal

pub turns-preserved : goal.turns-preserved
turns-preserved g c =
    let turn = c.index-turns-i.result in
    let is : turn ≡ get_or c.args.turns.now c.turns.i turn = search rules in
    let done : c.commit.result ≡ true = search rules in
    let so_far = c.turns.invariant in
    let more = c.commit.ensures in
    record {
      commits =
          one_more CommitsOrDrops c.args.turns.now c.turns.i turn c.args.desk.now.book c.turns.desk.book
          c.commit.new.desk.book c.turns-test.true is so_far.commits (more.commits done);
      same = commits_on c.args.desk.now c.turns.desk c.commit.new.desk so_far.same more.same;
      number = more.number ∙ so_far.number;
      counted = let a = so_far.counted in let b = more.counted in omega arith;
      most = let a = so_far.most in let b = more.most in omega arith;
    }
