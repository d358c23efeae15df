use Rattle.kpn_book.proofs.Common.{◌<◌, length, take, get_or, sym, subst, take_more, Contains-get_or, HasProcesses}
use Rattle.kpn_book.proofs.Claiming.{one_process_more}
use Rattle.kpn_book.proofs.open_book.claims.claim_processes.Goals as goal

pub claim_process-requires-clause-process : goal.claim_process-requires-clause-process
claim_process-requires-clause-process g c =
    subst (λ t. get_or c.args.of.now c.processes.k 0 < length t.instances) (sym c.processes.invariant.tables)
    (c.requires.processes _ (Contains-get_or c.args.of.now c.processes.k 0 c.processes-test.true))

pub processes-preserved : goal.processes-preserved
processes-preserved g c =
    let t = c.args.batch.now.tables in
    let s = c.args.machine.now in
    let p = get_or c.args.of.now c.processes.k 0 in
    subst (λ ps. HasProcesses ps t s c.claim_process.new.batch)
    (sym (take_more c.args.of.now c.processes.k 0 c.processes-test.true))
    (one_process_more t s (take c.processes.k c.args.of.now) p c.processes.batch c.claim_process.new.batch
    c.processes.invariant c.known.ensures.was
    (c.requires.processes p (Contains-get_or c.args.of.now c.processes.k 0 c.processes-test.true))
    c.claim_process.ensures.tables c.claim_process.ensures.fresh c.claim_process.ensures.claims)
