-- The next names of both tables go together.
use Rattle.kpn_text.proofs.Common.{◌++◌, ◌∷◌, [], sym, ap, ◌∙◌, arith, process_names_in}
use Rattle.kpn_text.proofs.Tables.{pairs_break, pairs_end, pairs_next, pairs_start}
use Rattle.kpn_text.proofs.names.of_processes.Goals as goal
use Rattle.kpn_text.proofs.names.of_processes.Goals.{else-loop-number-test, then-loop-number-test+in_default}

pub returns : goal.returns
returns c =
    elim c.loop-number-test.branch [
      | else-loop-number-test w ↦ pairs_end process_names_in (λ p. p.scope) c.loop-number.own
          c.args.names.now c.args.programs.now c.loop-number.number c.loop-number.invariant (omega arith)
      | then-loop-number-test+in_default w ↦ pairs_break process_names_in (λ p. p.scope)
          c.loop-number.own c.args.names.now c.args.programs.now c.loop-number.number c.loop-number.invariant
          (sym w.in_default.ensures)
    ]

pub loop-number-preserved : goal.loop-number-preserved
loop-number-preserved c =
    pairs_next process_names_in (λ p. p.scope) c.loop-number.own c.push.new.self c.args.names.now
    c.args.programs.now c.loop-number.number c.in-Some.name.now c.index-programs-number.result
    c.loop-number.invariant (sym c.in-Some.ensures) c.index-programs-number.is (omega arith)
    (c.in_ok-push.ensures.items ∙ ap (λ v. c.loop-number.own ++ v ∷ []) c.in_ok-of_process.ensures)

pub loop-number-init : goal.loop-number-init
loop-number-init c =
    pairs_start process_names_in (λ p. p.scope) c.args.names.now c.args.programs.now c.new-own.result
    c.new-own.ensures
