-- The next program is made, or it is the first that breaks a rule.
use Rattle.kpn_text.proofs.Common.{◌≡◌, List, [], ◌∷◌, length, map, refl, sym, ap, ◌∙◌, arith, err_from_is_err_and, into_iter_items, Parts, first_fault, ProgramParts, SharedTables, program_seen}
use Rattle.kpn_text.proofs.Tables.{made_all, made_broken, made_next, made_start, program_keeps}
use Rattle.kpn_text.proofs.network.programs.Goals as goal

abbrev seen : SharedTables → List ProgramParts → List Parts
seen shared ps = map (λ p. p.parts) (map (program_seen shared) ps)

none_left : (shared : SharedTables) (ps : List ProgramParts) → length ps ≡ 0 → seen shared ps ≡ []
none_left shared [] e = refl
none_left shared (p ∷ ps) e = absurd (omega arith)

pub returns : goal.returns
returns c =
    let it = c.loop-process.process-iterator in
    made_all (seen c.args.shared.now c.args.processes.items) c.loop-process.programs.items
    (seen c.args.shared.now (into_iter_items it))
    c.loop-process.invariant.0
    (none_left c.args.shared.now (into_iter_items it) (sym c.loop-process.invariant.1 ∙ c.in-None.ensures.steps.0))

pub returns-in_err-program : goal.returns-in_err-program
returns-in_err-program c =
    let p = err_from_is_err_and c.from_residual.result c.from_residual.ensures.1 in
    let parts = (program_seen c.args.shared.now c.in-Some.process).parts in
    let next = ap (seen c.args.shared.now) c.in-Some.ensures.steps.0 in
    rw (p.1, p.2)
    (made_broken (seen c.args.shared.now c.args.processes.items) c.loop-process.programs.items
    (seen c.args.shared.now (into_iter_items c.loop-process.process-iterator))
    (seen c.args.shared.now (into_iter_items c.next.new.self))
    parts c.len.result c.in_err-program.field-0.0
    c.loop-process.invariant.0 next (c.len.ensures ∙ c.loop-process.programs.ok.0) c.in_err-program.ensures)

pub loop-process-preserved : goal.loop-process-preserved
loop-process-preserved c =
    let parts = (program_seen c.args.shared.now c.in-Some.process).parts in
    let next = ap (seen c.args.shared.now) c.in-Some.ensures.steps.0 in
    let count = ap length c.in-Some.ensures.steps.0 in
    let fewer = c.in-Some.ensures.steps.1 in
    let is = c.loop-process.invariant.1 in (
      made_next (seen c.args.shared.now c.args.processes.items) c.loop-process.programs.items
          (seen c.args.shared.now (into_iter_items c.loop-process.process-iterator))
          (seen c.args.shared.now (into_iter_items c.next.new.self))
          c.push.new.self.items parts c.in_ok-program.program
          c.loop-process.invariant.0 next
          (program_keeps c.len.result (first_fault parts) c.in_ok-program.ensures.0, c.in_ok-program.ensures.1)
          c.in_ok-push.ensures.items,
      omega (arith, count, fewer, is),
    )

pub loop-process-init : goal.loop-process-init
loop-process-init c =
    let gives = c.into_iter-process-iterator.ensures.into_iter_gives in (
      made_start (seen c.args.shared.now c.args.processes.items) c.new-programs.result.items
          (seen c.args.shared.now (into_iter_items c.into_iter-process-iterator.result)) c.new-programs.ensures.items
          (ap (seen c.args.shared.now) gives.0),
      gives.1 ∙ c.args.processes.ok.0 ∙ ap length (sym gives.0),
    )
