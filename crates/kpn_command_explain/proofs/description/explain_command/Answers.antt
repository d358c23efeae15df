-- Each arm gives what the command may give.
use Rattle.kpn_command_explain.proofs.Common.{Ok, sym, subst, IfOk-weaker, IfErr-weaker}
use Rattle.kpn_command_explain.proofs.Arms.{is_right, is_wrong, no_memory, is_refused}
use Rattle.kpn_command_explain.proofs.description.explain_command.Goals as goal

pub returns-in-Ok-clause-ok : goal.returns-in-Ok-clause-ok
returns-in-Ok-clause-ok g c =
    let may_give = g.S.Shelf.may_give c.args.shelf.now in
    let bytes = c.as_slice-text.result.now in
    let loaded =
    subst (λ b. may_give c.args.file.now (Ok b)) (sym c.as_slice-text.ensures.value) c.in_ok-bytes.ensures.ok in
    IfOk-weaker c.right.result _ _
    (λ made m. (
      is_right may_give c.args.file.now bytes loaded c.in-Ok.document c.in-Ok.ensures.found made.text.items made.status
          m.0,
      m.1,
    ))
    c.right.ensures.ok

pub returns-in-Ok-clause-refused : goal.returns-in-Ok-clause-refused
returns-in-Ok-clause-refused g c =
    let may_give = g.S.Shelf.may_give c.args.shelf.now in
    IfErr-weaker c.right.result _ _ (λ r same. no_memory may_give c.args.file.now r same) c.right.ensures.refused

pub returns-clause-ok : goal.returns-clause-ok
returns-clause-ok g c =
    let may_give = g.S.Shelf.may_give c.args.shelf.now in
    let bytes = c.as_slice-text.result.now in
    let loaded =
    subst (λ b. may_give c.args.file.now (Ok b)) (sym c.as_slice-text.ensures.value) c.in_ok-bytes.ensures.ok in
    IfOk-weaker c.wrong.result _ _
    (λ made m. (
      is_wrong may_give c.args.file.now bytes loaded c.in-Err.fault c.in-Err.ensures.fault made.text.items made.status
          m.0,
      m.1,
    ))
    c.wrong.ensures.ok

pub returns-clause-refused : goal.returns-clause-refused
returns-clause-refused g c =
    let may_give = g.S.Shelf.may_give c.args.shelf.now in
    let bytes = c.as_slice-text.result.now in
    let loaded =
    subst (λ b. may_give c.args.file.now (Ok b)) (sym c.as_slice-text.ensures.value) c.in_ok-bytes.ensures.ok in
    IfErr-weaker c.wrong.result _ _
    (λ r same. is_refused may_give c.args.file.now bytes loaded c.in-Err.fault c.in-Err.ensures.fault r same)
    c.wrong.ensures.refused
