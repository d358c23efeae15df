-- A step leaves the process of its turn as it was, and the gate answers for this process.
use Rattle.kpn_pool_desk.proofs.Common.{◌≡◌, ◌<◌, length, take, Some, sym, ap, ◌∙◌, subst, rules, arith, slice_get, All, take-set, StepsWithin, claimed_by, LetsThrough}
use Rattle.kpn_pool_desk.proofs.Batches.{all_more_set, claimed_by-set, claimed_at, through_more, stopped_at, let_all}
use Rattle.kpn_pool_desk.proofs.held_turns.step_each.Goals as goal

pub turns-preserved : goal.turns-preserved
turns-preserved g c =
    let may = g.G.Gate.may_answer c.args.gate.now c.args.worker in
    let turn = c.index-turns-i.result in
    let below : c.turns.i < length c.turns.turns = search rules in
    let same = c.step_timed-process.ensures.same in
    let kept = claimed_by-set c.turns.turns c.turns.i c.step_timed-process.new.self turn below same in
    let there =
    claimed_at c.turns.turns c.turns.i turn below ∙ ap Some (sym (c.step_timed-process.ensures.process ∙ same)) in
    record {
      claimed = kept ∙ c.turns.invariant.claimed;
      through = λ j q less at.
          through_more may (claimed_by c.turns.turns) c.turns.i c.step_timed-process.result there
          (subst (λ go. may c.step_timed-process.result go) c.in-On.is c.between.ensures) c.turns.invariant.through j q less
          (subst (λ ps. slice_get ps j ≡ Some q) kept at);
      within =
          all_more_set (StepsWithin c.args.quota) c.turns.turns c.turns.i c.step_timed-process.new.self below
          c.turns.invariant.within c.step_timed-process.ensures.quota;
    }

pub returns-in-Abandon : goal.returns-in-Abandon
returns-in-Abandon g c =
    let may = g.G.Gate.may_answer c.args.gate.now c.args.worker in
    let turn = c.index-turns-i.result in
    let below : c.turns.i < length c.turns.turns = search rules in
    let same = c.step_timed-process.ensures.same in
    let kept = claimed_by-set c.turns.turns c.turns.i c.step_timed-process.new.self turn below same in
    let there =
    claimed_at c.turns.turns c.turns.i turn below ∙ ap Some (sym (c.step_timed-process.ensures.process ∙ same)) in
    record {
      count = omega arith;
      claimed = kept ∙ c.turns.invariant.claimed;
      gate =
          subst (λ ps. LetsThrough may c.turns.i c.args.held ps) (sym kept)
          (stopped_at may (claimed_by c.turns.turns) c.turns.i c.step_timed-process.result c.args.held there
          (subst (λ go. may c.step_timed-process.result go) c.in-Abandon.is c.between.ensures) c.turns.invariant.through);
      quota =
          subst (λ ts. All (StepsWithin c.args.quota) ts)
          (sym (take-set c.turns.turns c.turns.i c.step_timed-process.new.self)) c.turns.invariant.within;
    }

pub returns-clause-gate : goal.returns-clause-gate
returns-clause-gate g c =
    let_all (g.G.Gate.may_answer c.args.gate.now c.args.worker) (claimed_by c.turns.turns) c.args.held
    (λ j q less at. c.turns.invariant.through j q (omega (arith, less)) at)

pub returns-clause-quota : goal.returns-clause-quota
returns-clause-quota g c =
    let all : c.turns.i ≡ c.args.held = omega arith in
    subst (λ n. All (StepsWithin c.args.quota) (take n c.turns.turns)) all c.turns.invariant.within
