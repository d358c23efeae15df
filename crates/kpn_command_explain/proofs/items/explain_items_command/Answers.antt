-- Each arm gives what the command may give.
use Rattle.kpn_command_explain.proofs.Common.{Ok, sym, subst, IfOk-weaker, IfErr-weaker, Spells}
use Rattle.kpn_command_explain.proofs.Arms.{are_right, is_wrong_line, no_memory_for_items}
use Rattle.kpn_command_explain.proofs.items.explain_items_command.Goals as goal

pub returns-in-Ok-clause-ok : goal.returns-in-Ok-clause-ok
returns-in-Ok-clause-ok g c =
    let may_give = g.S.Shelf.may_give c.args.shelf.now in
    let bytes = c.as_slice-text.result.now in
    let loaded =
    subst (λ b. may_give c.args.file.now (Ok b)) (sym c.as_slice-text.ensures.value) c.in_ok-bytes.ensures.ok in
    IfOk-weaker c.right.result _ _
    (λ made m. (
      are_right may_give c.args.file.now bytes loaded c.as_slice.result.now
          (subst (Spells bytes) (sym c.as_slice.ensures.value) c.in-Ok.ensures.ok) made.text.items made.status m.0,
      m.1,
    ))
    c.right.ensures.ok

pub returns-in-Ok-clause-refused : goal.returns-in-Ok-clause-refused
returns-in-Ok-clause-refused g c =
    let may_give = g.S.Shelf.may_give c.args.shelf.now in
    IfErr-weaker c.right.result _ _ (λ r same. no_memory_for_items may_give c.args.file.now r same)
    c.right.ensures.refused

pub returns-in-Err-BadItem-clause-ok : goal.returns-in-Err-BadItem-clause-ok
returns-in-Err-BadItem-clause-ok g c =
    let may_give = g.S.Shelf.may_give c.args.shelf.now in
    let bytes = c.as_slice-text.result.now in
    let loaded =
    subst (λ b. may_give c.args.file.now (Ok b)) (sym c.as_slice-text.ensures.value) c.in_ok-bytes.ensures.ok in
    IfOk-weaker c.wrong.result _ _
    (λ made m. (
      is_wrong_line may_give c.args.file.now bytes loaded c.in-Err-BadItem.line
          (rw c.in-Err-BadItem.field-0-is at c.in-Err-BadItem.ensures.bad_item) made.text.items made.status m.0,
      m.1,
    ))
    c.wrong.ensures.ok

pub returns-in-Err-BadItem-clause-refused : goal.returns-in-Err-BadItem-clause-refused
returns-in-Err-BadItem-clause-refused g c =
    let may_give = g.S.Shelf.may_give c.args.shelf.now in
    IfErr-weaker c.wrong.result _ _ (λ r same. no_memory_for_items may_give c.args.file.now r same)
    c.wrong.ensures.refused
