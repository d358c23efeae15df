-- The next name is copied.
use Rattle.std.proofs.Common.{sym, ap, ◌∙◌, Some, arith}
use Rattle.kpn_text.proofs.Tables.{all_there, none_left, one_more}
use Rattle.kpn_text.proofs.names.table.Goals as goal
use Rattle.kpn_text.proofs.names.table.Goals.{else-loop-number-test, then-loop-number-test+in_default}

pub returns : goal.returns
returns c =
    elim c.loop-number-test.branch [
      | else-loop-number-test w ↦ all_there c.loop-number.own c.args.names.now c.loop-number.number
          c.loop-number.invariant (omega arith)
      | then-loop-number-test+in_default w ↦ none_left c.loop-number.own c.args.names.now c.loop-number.number
          c.loop-number.invariant (sym w.in_default.ensures)
    ]

pub loop-number-preserved : goal.loop-number-preserved
loop-number-preserved c =
    one_more c.loop-number.own c.push.new.self c.args.names.now c.loop-number.number c.in_ok-copied.field-0
    c.loop-number.invariant (sym c.in-Some.ensures ∙ ap Some (sym c.in_ok-copied.ensures))
    c.in_ok-push.ensures.items
