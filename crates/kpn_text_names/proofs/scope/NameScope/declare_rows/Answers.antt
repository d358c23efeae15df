-- An array or a table takes the names a step on, or its name is the first that is wrong.
use Rattle.kpn_text_names.proofs.Common.{sym, ◌∙◌, arith, err_from_is_err_and, declaration_seen, declare}
use Rattle.kpn_text_names.proofs.Steps.{goes, fails, ends}
use Rattle.kpn_text_names.proofs.scope.NameScope.declare_rows.Goals as goal

pub returns-in_err-declare_row : goal.returns-in_err-declare_row
returns-in_err-declare_row c =
    let p = err_from_is_err_and c.from_residual.result c.from_residual.ensures.1 in
    rw (p.1, p.2, ← c.loop-declaration.invariant)
    (fails (declare c.args.shared.now) declaration_seen c.loop-declaration.self c.args.declarations.now
    c.loop-declaration.declaration-index c.declaration-item.result c.declaration-item.result
    c.in_err-declare_row.field-0.0 (omega arith) (sym c.declaration-item.is) c.in_err-declare_row.ensures)

pub loop-declaration-preserved : goal.loop-declaration-preserved
loop-declaration-preserved c =
    sym
    (goes (declare c.args.shared.now) declaration_seen c.loop-declaration.self c.args.declarations.now
    c.loop-declaration.declaration-index c.declaration-item.result c.declaration-item.result c.declare_row.new.self
    (omega arith) (sym c.declaration-item.is) c.in_ok-declare_row.ensures)
    ∙ c.loop-declaration.invariant

pub returns : goal.returns
returns c =
    sym c.loop-declaration.invariant
    ∙ ends (declare c.args.shared.now) declaration_seen c.loop-declaration.self c.args.declarations.now
    c.loop-declaration.declaration-index (omega arith)
