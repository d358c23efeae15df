-- A token takes what has gone by a step on, or is the first that is wrong.
use Rattle.kpn_text_expand.proofs.Common.{sym, ◌∙◌, arith, err_from_is_err_and}
use Rattle.kpn_text_expand.specs.Constants.{step}
use Rattle.kpn_text_expand.proofs.Steps.{goes, fails, ends}
use Rattle.kpn_text_expand.proofs.expanding.all_steps.Goals as goal

pub returns-in_err-step : goal.returns-in_err-step
returns-in_err-step c =
    let p = err_from_is_err_and c.from_residual.result c.from_residual.ensures.1 in
    rw (p.1, p.2, ← c.loop-lexeme.invariant)
    (fails step c.loop-lexeme.constants c.args.tokens.now c.loop-lexeme.lexeme-index c.lexeme-item.result
    c.lexeme-item.result c.in_err-step.field-0.0 (omega arith) (sym c.lexeme-item.is) c.in_err-step.ensures)

pub loop-lexeme-preserved : goal.loop-lexeme-preserved
loop-lexeme-preserved c =
    sym
    (goes step c.loop-lexeme.constants c.args.tokens.now c.loop-lexeme.lexeme-index c.lexeme-item.result
    c.lexeme-item.result c.step.new.self (omega arith) (sym c.lexeme-item.is) c.in_ok-step.ensures)
    ∙ c.loop-lexeme.invariant

pub returns : goal.returns
returns c =
    sym c.loop-lexeme.invariant
    ∙ ends step c.loop-lexeme.constants c.args.tokens.now c.loop-lexeme.lexeme-index (omega arith)
