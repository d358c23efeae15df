-- Phase by phase.
use Rattle.std.proofs.lemmas.Result.{err_from_is_err_and}
use Rattle.kpn_text.proofs.TokenPhases.{lexed_wrong, expanded_wrong, meant_right}
use Rattle.kpn_text.proofs.tokens.meant_tokens.Goals as goal

pub returns-in_err-tokens : goal.returns-in_err-tokens
returns-in_err-tokens c =
    let p = err_from_is_err_and c.from_residual.result c.from_residual.ensures.1 in
    rw (p.1) (lexed_wrong c.args.language c.args.text.now c.in_err-tokens.field-0.0 p.0 c.in_err-tokens.ensures p.2)

pub returns-in_err-meant : goal.returns-in_err-meant
returns-in_err-meant c =
    let p = err_from_is_err_and c.from_residual-in_err-meant.result c.from_residual-in_err-meant.ensures.1 in
    rw (p.1)
    (expanded_wrong c.args.language c.args.text.now c.in_ok-tokens.tokens.items c.in_err-meant.field-0.0 p.0
    c.in_ok-tokens.ensures c.in_err-meant.ensures p.2)

pub returns : goal.returns
returns c =
    meant_right c.args.language c.args.text.now c.in_ok-tokens.tokens.items c.in_ok-meant.meant
    c.in_ok-tokens.ensures c.in_ok-meant.ensures
