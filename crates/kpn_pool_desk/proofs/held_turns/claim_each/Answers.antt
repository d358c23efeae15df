use Rattle.kpn_pool_desk.proofs.Common.{◌≡◌, ◌<◌, true, length, rules, Claims}
use Rattle.kpn_pool_desk.proofs.Batches.{one_more_set}
use Rattle.kpn_pool_desk.proofs.Seating.{still_with_book}
use Rattle.kpn_pool_desk.proofs.held_turns.claim_each.Goals as goal

pub turns-preserved : goal.turns-preserved
turns-preserved g c =
    let is : c.in-Ok-true.field-0 ≡ true = search rules in
    let below : c.turns.i < length c.turns.turns = search rules in
    record {
      claims =
          one_more_set Claims c.turns.turns c.turns.i c.claim.new.self c.args.desk.now.book c.turns.desk.book
          c.claim.new.desk.book below c.turns.invariant.claims (c.in-Ok-true.ensures.claims is);
      same =
          still_with_book c.args.desk.now c.turns.desk c.claim.new.desk c.turns.invariant.same
          c.in-Ok-true.ensures.same;
    }
