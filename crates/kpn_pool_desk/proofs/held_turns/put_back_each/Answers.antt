use Rattle.kpn_pool_desk.proofs.Common.{rules, ◌≡◌, get_or, PutsBack}
use Rattle.kpn_pool_desk.proofs.Batches.{one_more}
use Rattle.kpn_pool_desk.proofs.Seating.{still_with_book}
use Rattle.kpn_pool_desk.proofs.held_turns.put_back_each.Goals as goal

pub turns-preserved : goal.turns-preserved
turns-preserved g c =
    let turn = c.index-turns-i.result in
    let is : turn ≡ get_or c.args.turns.now c.turns.i turn = search rules in
    record {
      back =
          one_more PutsBack c.args.turns.now c.turns.i turn c.args.desk.now.book c.turns.desk.book
          c.put_back.new.desk.book c.turns-test.true is c.turns.invariant.back c.put_back.ensures.back;
      same =
          still_with_book c.args.desk.now c.turns.desk c.put_back.new.desk c.turns.invariant.same
          c.put_back.ensures.same;
    }
