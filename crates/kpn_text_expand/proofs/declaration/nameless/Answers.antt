-- A token is one more, or is the first that is a name.
use Rattle.kpn_text_expand.proofs.Common.{sym, ◌∙◌, arith, err_from_is_err_and, with_nameless}
use Rattle.kpn_text_expand.proofs.Steps.{goes, fails, ends}
use Rattle.kpn_text_expand.proofs.declaration.nameless.Goals as goal

pub returns-in_err-add_nameless : goal.returns-in_err-add_nameless
returns-in_err-add_nameless c =
    let p = err_from_is_err_and c.from_residual.result c.from_residual.ensures.1 in
    rw (p.1, p.2, ← c.loop-lexeme.invariant)
    (fails with_nameless c.loop-lexeme.left c.args.tokens.now c.loop-lexeme.lexeme-index c.lexeme-item.result
    c.lexeme-item.result c.in_err-add_nameless.field-0.0 (omega arith) (sym c.lexeme-item.is) c.in_err-add_nameless.ensures)

pub loop-lexeme-preserved : goal.loop-lexeme-preserved
loop-lexeme-preserved c =
    sym
    (goes with_nameless c.loop-lexeme.left c.args.tokens.now c.loop-lexeme.lexeme-index c.lexeme-item.result
    c.lexeme-item.result c.add_nameless.new.left (omega arith) (sym c.lexeme-item.is) c.in_ok-add_nameless.ensures)
    ∙ c.loop-lexeme.invariant

pub returns : goal.returns
returns c =
    sym c.loop-lexeme.invariant
    ∙ ends with_nameless c.loop-lexeme.left c.args.tokens.now c.loop-lexeme.lexeme-index (omega arith)
