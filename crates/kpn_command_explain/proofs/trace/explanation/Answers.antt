-- The bytes spell the trace, or are refused.
use Rattle.kpn_command_explain.proofs.Common.{IfOk-weaker, IfErr-weaker, refused, spelled}
use Rattle.kpn_command_explain.proofs.Conclusions.{no_explanation}
use Rattle.kpn_command_explain.proofs.trace.explanation.Goals as goal

pub returns-in-Ok-clause-ok : goal.returns-in-Ok-clause-ok
returns-in-Ok-clause-ok c =
    IfOk-weaker c.conclusion.result _ _ (λ made concluded. (spelled c.in-Ok.trace c.in-Ok.ensures.ok concluded.0, concluded.1))
    c.conclusion.ensures.ok

pub returns-in-Ok-clause-refused : goal.returns-in-Ok-clause-refused
returns-in-Ok-clause-refused c =
    IfErr-weaker c.conclusion.result _ _
    (no_explanation c.args.document.now.tables c.args.bytes.now c.in-Ok.trace c.in-Ok.ensures.ok)
    c.conclusion.ensures.refused

pub returns-in-Err-clause-ok : goal.returns-in-Err-clause-ok
returns-in-Err-clause-ok c =
    IfOk-weaker c.wrong.result _ _
    (λ made told. (refused c.in-Err.fault c.in-Err.ensures.refused told.0.0 told.0.1 told.0.2, told.1))
    c.wrong.ensures.ok
