-- A table takes the tables a step on, or its name is the first that is wrong.
use Rattle.kpn_text_names.proofs.Common.{sym, ◌∙◌, arith, err_from_is_err_and, table_seen, with_shared}
use Rattle.kpn_text_names.proofs.Steps.{goes, fails, ends}
use Rattle.kpn_text_names.proofs.tables.SharedTables.read.Goals as goal

pub returns-in_err-add : goal.returns-in_err-add
returns-in_err-add c =
    let p = err_from_is_err_and c.from_residual.result c.from_residual.ensures.1 in
    rw (p.1, p.2, ← c.loop-table.invariant)
    (fails with_shared table_seen c.loop-table.read c.args.tables.now c.loop-table.table-index c.table-item.result
    c.table-item.result c.in_err-add.field-0.0 (omega arith) (sym c.table-item.is) c.in_err-add.ensures)

pub loop-table-preserved : goal.loop-table-preserved
loop-table-preserved c =
    sym
    (goes with_shared table_seen c.loop-table.read c.args.tables.now c.loop-table.table-index c.table-item.result
    c.table-item.result c.add.new.self (omega arith) (sym c.table-item.is) c.in_ok-add.ensures)
    ∙ c.loop-table.invariant

pub returns : goal.returns
returns c =
    sym c.loop-table.invariant
    ∙ ends with_shared table_seen c.loop-table.read c.args.tables.now c.loop-table.table-index (omega arith)
