-- As the program's parts are, with its number.
use Rattle.kpn_text.proofs.Common.{first_fault, program_seen}
use Rattle.kpn_text.proofs.Tables.{program_made, program_broken}
use Rattle.kpn_text.proofs.network.program.Goals as goal

pub returns-in-Ok : goal.returns-in-Ok
returns-in-Ok c =
    let parts = (program_seen c.args.shared.now c.args.process).parts in
    program_made c.args.number (first_fault parts) parts c.in-Ok.program
    (rw (c.len-ins.ensures, c.len-outs.ensures, c.saturating_sub-free.ensures, c.in_ok-values.ensures)
    at c.in-Ok.ensures.refused)
    (rw (c.len-ins.ensures, c.len-outs.ensures, c.saturating_sub-free.ensures, c.in_ok-values.ensures)
    at c.in-Ok.ensures.made)

pub returns : goal.returns
returns c =
    let parts = (program_seen c.args.shared.now c.args.process).parts in
    program_broken c.args.number (first_fault parts) c.in-Err.fault c.told.result
    (rw (c.len-ins.ensures, c.len-outs.ensures, c.saturating_sub-free.ensures, c.in_ok-values.ensures)
    at c.in-Err.ensures.refused)
    (rw (c.len-ins.ensures, c.len-outs.ensures, c.saturating_sub-free.ensures, c.in_ok-values.ensures)
    at c.in-Err.ensures.made) c.told.ensures
