-- The next name and the next of the others go together.
use Rattle.kpn_text.proofs.Common.{◌++◌, ◌∷◌, [], sym, ap, ◌∙◌, arith, named_table, paired}
use Rattle.kpn_text.proofs.Tables.{pairs_break, pairs_end, pairs_next, same_list}
use Rattle.kpn_text.proofs.names.shared_tables.Goals as goal
use Rattle.kpn_text.proofs.names.shared_tables.Goals.{else-loop-number-test, then-loop-number-test+in_default}

pub returns : goal.returns
returns c =
    elim c.loop-number-test.branch [
      | else-loop-number-test w ↦ pairs_end named_table (λ vs. vs) c.loop-number.own c.args.names.now c.args.lists.now
          c.loop-number.number
          c.loop-number.invariant (omega arith) ∙ ap (paired named_table c.args.names.now) (same_list c.args.lists.now)
      | then-loop-number-test+in_default w ↦ pairs_break named_table (λ vs. vs) c.loop-number.own c.args.names.now
          c.args.lists.now
          c.loop-number.number c.loop-number.invariant (sym w.in_default.ensures)
          ∙ ap (paired named_table c.args.names.now) (same_list c.args.lists.now)
    ]

pub loop-number-preserved : goal.loop-number-preserved
loop-number-preserved c =
    pairs_next named_table (λ vs. vs) c.loop-number.own c.push.new.self c.args.names.now c.args.lists.now
    c.loop-number.number
    c.in-Some.name.now c.index-lists-number.result c.loop-number.invariant (sym c.in-Some.ensures)
    c.index-lists-number.is (omega arith)
    (c.in_ok-push.ensures.items
    ∙ ap (λ v. c.loop-number.own ++ v ∷ [])
    (c.in_ok-shared_table.ensures ∙ ap (named_table c.in-Some.name.now) c.as_slice.ensures))
