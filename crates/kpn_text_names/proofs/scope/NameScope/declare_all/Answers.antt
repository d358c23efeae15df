-- A name takes the tables a step on, or is the first that is wrong.
use Rattle.kpn_text_names.proofs.Common.{sym, ◌∙◌, arith, refl, err_from_is_err_and, declared_in}
use Rattle.kpn_text_names.proofs.Steps.{goes, fails, ends}
use Rattle.kpn_text_names.proofs.scope.NameScope.declare_all.Goals as goal

pub returns-in_err-declare : goal.returns-in_err-declare
returns-in_err-declare c =
    let p = err_from_is_err_and c.from_residual.result c.from_residual.ensures.1 in
    rw (p.1, p.2, ← c.loop-name.invariant)
    (fails (declared_in c.args.shared.now c.args.part) (λ x. x.bytes.now) c.loop-name.self c.args.names.now c.loop-name.name-index _ _
    c.in_err-declare.field-0.0 (omega arith) refl c.in_err-declare.ensures)

pub loop-name-preserved : goal.loop-name-preserved
loop-name-preserved c =
    sym
    (goes (declared_in c.args.shared.now c.args.part) (λ x. x.bytes.now) c.loop-name.self c.args.names.now c.loop-name.name-index _
    _ c.declare.new.self (omega arith) refl c.in_ok-declare.ensures)
    ∙ c.loop-name.invariant

pub returns : goal.returns
returns c =
    sym c.loop-name.invariant
    ∙ ends (declared_in c.args.shared.now c.args.part) (λ x. x.bytes.now) c.loop-name.self c.args.names.now c.loop-name.name-index
    (omega arith)
