-- A process takes the tables a step on, or is the first that is wrong.
use Rattle.kpn_text_names.proofs.Common.{sym, ◌∙◌, arith, err_from_is_err_and, process_seen, with_named_process, programs_seen}
use Rattle.kpn_text_names.proofs.Steps.{goes, fails, ends}
use Rattle.kpn_text_names.proofs.process.Processes.read.Goals as goal

pub returns-in_err-add : goal.returns-in_err-add
returns-in_err-add c =
    let p = err_from_is_err_and c.from_residual.result c.from_residual.ensures.1 in
    rw (p.1, p.2, ← c.loop-process.invariant)
    (fails (with_named_process c.args.language c.args.shared.now) process_seen (programs_seen c.args.shared.now c.loop-process.read) c.args.processes.now
    c.loop-process.process-index c.process-item.result c.process-item.result c.in_err-add.field-0.0 (omega arith)
    (sym c.process-item.is) c.in_err-add.ensures)

pub loop-process-preserved : goal.loop-process-preserved
loop-process-preserved c =
    sym
    (goes (with_named_process c.args.language c.args.shared.now) process_seen (programs_seen c.args.shared.now c.loop-process.read) c.args.processes.now
    c.loop-process.process-index c.process-item.result c.process-item.result (programs_seen c.args.shared.now c.add.new.self)
    (omega arith) (sym c.process-item.is) c.in_ok-add.ensures)
    ∙ c.loop-process.invariant

pub returns : goal.returns
returns c =
    sym c.loop-process.invariant
    ∙ ends (with_named_process c.args.language c.args.shared.now) process_seen (programs_seen c.args.shared.now c.loop-process.read) c.args.processes.now
    c.loop-process.process-index (omega arith)
