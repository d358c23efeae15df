-- What is told, or why there is no picture, is told of what an audit finds.
use Rattle.std.proofs.lemmas.Result.{IfOk-weaker, IfErr-weaker}
use Rattle.kpn_command_views.proofs.Pictured.{of_audit, of_audited}
use Rattle.kpn_command_views.proofs.svg_command.picture_command.Goals as goal

pub returns-in-Ok-clause-ok : goal.returns-in-Ok-clause-ok
returns-in-Ok-clause-ok g c =
    IfOk-weaker c.conclusion_of.result _ _
    (λ made told. (
      record { audited = c.in-Ok.audited; is_audited = c.in-Ok.ensures.ok; told = told.0 },
      told.1,
    )) c.conclusion_of.ensures.ok

pub returns-in-Ok-clause-refused : goal.returns-in-Ok-clause-refused
returns-in-Ok-clause-refused g c =
    let a = c.args in
    IfErr-weaker c.conclusion_of.result _ _
    (of_audited (g.S.Shelf.may_give a.shelf.now) a.file.now a.trace.now a.steps a.first a.last c.in-Ok.audited
    c.in-Ok.ensures.ok) c.conclusion_of.ensures.refused

pub returns-in-Err-clause-refused : goal.returns-in-Err-clause-refused
returns-in-Err-clause-refused g c =
    let a = c.args in
    of_audit (g.S.Shelf.may_give a.shelf.now) a.file.now a.trace.now a.steps a.first a.last c.in-Err.refusal
    c.in-Err.ensures.refused
