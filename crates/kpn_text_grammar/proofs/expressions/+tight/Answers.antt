-- An expression is an operand, and then a turn of the loop reads an operator and its right side.
use Rattle.kpn_text_grammar.proofs.Common.{◌≡◌, ℕ, ◌+◌, ◌-◌, sym, ap, subst, ◌∙◌, arith, Ok, Err, err_from_is_err_and, right_side, tightness, ReadingFails, tight, ExpressionNode, binary, term, term_step, tokens_from}
use Rattle.kpn_text_grammar.specs.declared.tree.Expression.{fold-roll-Expression}
use Rattle.kpn_text_grammar.specs.declared.tree.Expression.TheOpen.{Expression-F}
use Rattle.kpn_text_grammar.specs.declared.tree.Expression.TheVariants.{rolls-Binary}
use Rattle.kpn_text_grammar.proofs.Rounds.{place_moves}
use Rattle.kpn_text_grammar.proofs.Steps.{fails_with}
use Rattle.kpn_text_grammar.proofs.TightLaws.{right_below}
use Rattle.kpn_text_grammar.proofs.TightSteps.{GoesOn, first_turn, full_turn, last_turn, next_turn, operand_fails, side_fails, side_shortens, sign_fails, tight_ends, tight_none}
use Rattle.kpn_text_grammar.proofs.expressions.+tight.Goals as goal

pub tight-returns-in_err-first-clause-read : goal.tight-returns-in_err-first-clause-read
tight-returns-in_err-first-clause-read t c =
    let p = err_from_is_err_and c.from_residual.result c.from_residual.ensures.1 in
    rw (p.1, p.2) (tight_ends c.args.source.scope c.args.room.depth c.args.room.levels c.args.least
    (tokens_from c.args.source c.args.at) c.in_err-first.field-0.0 c.in_err-first.ensures)

pub tight-returns-then-room-eq0-clause-read : goal.tight-returns-then-room-eq0-clause-read
tight-returns-then-room-eq0-clause-read t c =
    fails_with c.level_fault.result _ (tight_none c.args.source.scope c.args.room.depth c.args.room.levels c.args.least
    (tokens_from c.args.source c.args.at) c.in_ok-first.first.now (tokens_from c.args.source c.in_ok-first.after)
    (omega arith) c.in_ok-first.ensures ∙ ap Err (sym c.level_fault.ensures))

pub tight-returns-in_err-operand-clause-read : goal.tight-returns-in_err-operand-clause-read
tight-returns-in_err-operand-clause-read t c =
    let p = err_from_is_err_and c.from_residual-in_err-operand.result c.from_residual-in_err-operand.ensures.1 in
    rw (p.1, p.2) (operand_fails c.args.source.scope c.args.room.depth c.args.room.levels c.args.least
    (tokens_from c.args.source c.args.at) c.in_ok-first.first.now (tokens_from c.args.source c.in_ok-first.after)
    c.in_err-operand.field-0.0 (omega arith) (omega arith) c.in_ok-first.ensures c.in_err-operand.ensures.read)

pub tight-sides-init : goal.tight-sides-init
tight-sides-init t c = record {
  counted = c.in_ok-operand.ensures.levels.counted;
  few = c.in_ok-operand.ensures.levels.few;
  some = omega arith;
  whole = first_turn c.args.source.scope c.args.room.depth c.args.room.levels c.args.least
      (tokens_from c.args.source c.args.at) c.in_ok-first.first.now (tokens_from c.args.source c.in_ok-first.after)
      (term c.in_ok-operand.operand.root.value) (tokens_from c.args.source c.in_ok-operand.after) (omega arith)
      (omega arith) c.in_ok-first.ensures c.in_ok-operand.ensures.read;
}

pub tight-returns-then-room-levels-clause-read : goal.tight-returns-then-room-levels-clause-read
tight-returns-then-room-levels-clause-read t c =
    full_turn _ _ _ _ _ _ _ _ _ c.sides.invariant (sym c.goes_further.ensures ∙ c.sides-test.true) (omega arith)

pub tight-returns-in_err-sign-clause-read : goal.tight-returns-in_err-sign-clause-read
tight-returns-in_err-sign-clause-read t c =
    let p = err_from_is_err_and c.from_residual-in_err-sign.result c.from_residual-in_err-sign.ensures.1 in
    rw (p.1, p.2) (sign_fails _ _ _ _ _ _ _ _ _ c.sides.invariant c.in_err-sign.field-0.0
    (sym c.goes_further.ensures ∙ c.sides-test.true) (omega arith) c.in_err-sign.ensures)

pub tight-returns-in_err-right-clause-read : goal.tight-returns-in_err-right-clause-read
tight-returns-in_err-right-clause-read t c =
    let p = err_from_is_err_and c.from_residual-in_err-right.result c.from_residual-in_err-right.ensures.1 in
    rw (p.1, p.2) (side_fails _ _ _ _ _ _ _ _ _ c.sides.invariant c.in_err-right.field-0.0 c.in_ok-sign.sign
    (tokens_from c.args.source c.in_ok-sign.side)
    (sym c.goes_further.ensures ∙ c.sides-test.true) (omega arith) c.in_ok-sign.ensures
    (subst (λ (k : ℕ). ReadingFails c.in_err-right.field-0.0 (tight c.args.source.scope c.args.room.depth
    (c.args.room.levels - 1) k (tokens_from c.args.source c.in_ok-sign.side))) c.right_side.ensures
    c.in_err-right.ensures.read))

pub tight-sides-smaller : goal.tight-sides-smaller
tight-sides-smaller t c =
    place_moves c.args.source.tokens.now c.sides.place c.in_ok-right.after
    (side_shortens c.args.source.scope c.args.room.depth (c.args.room.levels - 1) c.right_side.result
    (tokens_from c.args.source c.sides.place) c.in_ok-sign.sign (tokens_from c.args.source c.in_ok-sign.side) _
    (tokens_from c.args.source c.in_ok-right.after)
    (omega (arith, c.right_side.ensures, right_below c.in_ok-sign.sign)) c.in_ok-sign.ensures
    c.in_ok-right.ensures.read)

pub tight-sides-preserved : goal.tight-sides-preserved
tight-sides-preserved t c =
    let s = c.args.source.scope in
    let room = c.args.room in
    let o = c.in_ok-sign.sign in
    let left = term c.sides.root.value in
    let right = term c.in_ok-right.right.root.value in
    let after = tokens_from c.args.source c.in_ok-right.after in
    let total = tight s room.depth room.levels c.args.least (tokens_from c.args.source c.args.at) in
    let made = ap term c.in_ok-root.ensures.ok in
    let root : term c.in_ok-root.root.value ≡ binary o left right =
    made ∙ ap term (sym (rolls-Binary o c.sides.root c.in_ok-right.right.root))
    ∙ fold-roll-Expression ExpressionNode term_step (Expression-F.Binary o c.sides.root c.in_ok-right.right.root) in
    let side : tight s room.depth (room.levels - 1) (right_side o) (tokens_from c.args.source c.in_ok-sign.side)
    ≡ Ok (right, after) =
    subst (λ (k : ℕ). tight s room.depth (room.levels - 1) k (tokens_from c.args.source c.in_ok-sign.side)
    ≡ Ok (right, after)) c.right_side.ensures c.in_ok-right.ensures.read in
    let next = next_turn s room.depth room.levels c.args.least c.sides.bound c.sides.levels left
    (tokens_from c.args.source c.sides.place) total c.sides.invariant o
    (tokens_from c.args.source c.in_ok-sign.side) right after c.in_ok-right.right.levels (c.max-levels.result + 1)
    (sym c.goes_further.ensures ∙ c.sides-test.true) (omega arith) c.in_ok-sign.ensures side
    c.in_ok-right.ensures.levels.counted c.in_ok-right.ensures.levels.few
    (omega (arith, c.sides.invariant.counted, c.in_ok-right.ensures.levels.counted)) in
    subst (λ (k : ℕ). GoesOn s room.depth room.levels c.args.least k (c.max-levels.result + 1)
    (term c.in_ok-root.root.value) after total) (sym c.tightness-bound.ensures)
    (subst (λ (e : ExpressionNode). GoesOn s room.depth room.levels c.args.least (tightness o) (c.max-levels.result + 1) e after
    total) (sym root) next)

pub tight-returns-clause-read : goal.tight-returns-clause-read
tight-returns-clause-read t c =
    last_turn _ _ _ _ _ _ _ _ _ c.sides.invariant (sym c.goes_further.ensures ∙ c.sides-test.false)
