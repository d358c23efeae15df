-- The next name and the next of the others go together.
use Rattle.kpn_text.proofs.Common.{◌++◌, ◌∷◌, [], sym, ap, ◌∙◌, arith, named_row, behind_arrays}
use Rattle.kpn_text.proofs.Tables.{pairs_break, pairs_end, pairs_next_at}
use Rattle.kpn_text.proofs.names.tables.Goals as goal
use Rattle.kpn_text.proofs.names.tables.Goals.{else-loop-number-test, then-loop-number-test+in_default}

pub returns : goal.returns
returns c =
    elim c.loop-number-test.branch [
      | else-loop-number-test w ↦ pairs_end named_row (behind_arrays c.args.scope.now) c.loop-number.own
          c.args.scope.now.tables.rows.names c.args.rows.now c.loop-number.number
          c.loop-number.invariant (omega arith)
      | then-loop-number-test+in_default w ↦ pairs_break named_row (behind_arrays c.args.scope.now) c.loop-number.own
          c.args.scope.now.tables.rows.names c.args.rows.now
          c.loop-number.number c.loop-number.invariant (sym w.in_default.ensures)
    ]

pub loop-number-preserved : goal.loop-number-preserved
loop-number-preserved c =
    pairs_next_at named_row (behind_arrays c.args.scope.now) c.loop-number.own c.push.new.self
    c.args.scope.now.tables.rows.names c.args.rows.now c.loop-number.number
    c.in-Some.name.now (record { base = 0; size = 0 }) c.loop-number.invariant (sym c.in-Some.ensures) (omega arith)
    (c.in_ok-push.ensures.items ∙ ap (λ v. c.loop-number.own ++ v ∷ []) c.in_ok-table_row.ensures)
