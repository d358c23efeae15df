use Rattle.kpn_stream.proofs.Going.{stepped-trans}
use Rattle.kpn_stream.proofs.stepping.step_until.Goals as goal

pub returns-in_err-step_row : goal.returns-in_err-step_row
returns-in_err-step_row c =
    stepped-trans c.args.limits.now c.args.book.now c.rows.book c.step_row.new.book c.rows.invariant c.step_row.ensures

pub returns-then-is_none : goal.returns-then-is_none
returns-then-is_none c =
    stepped-trans c.args.limits.now c.args.book.now c.rows.book c.step_row.new.book c.rows.invariant c.step_row.ensures

pub rows-preserved : goal.rows-preserved
rows-preserved c =
    stepped-trans c.args.limits.now c.args.book.now c.rows.book c.step_row.new.book c.rows.invariant
    c.step_row.ensures
