-- Another word for a table asks for nothing.
use Rattle.kpn_command_line.proofs.Common.{err_from_is_err_and, rows_in}
use Rattle.kpn_command_line.proofs.Nothing.{no_table, usage_for}
use Rattle.kpn_command_line.proofs.words.stats_request.Goals as goal

pub returns-in_err-tables_of : goal.returns-in_err-tables_of
returns-in_err-tables_of c =
    let error =
    err_from_is_err_and c.from_residual-in_err-tables_of.result c.from_residual-in_err-tables_of.ensures.1 in
    rw (error.1, error.2) (usage_for _ _ c.in_err-tables_of.field-0.0 (no_table (rows_in c.args.stats.now))
    c.in_err-tables_of.ensures)
