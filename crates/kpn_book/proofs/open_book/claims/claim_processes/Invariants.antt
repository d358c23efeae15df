use Rattle.kpn_book.proofs.Common.{take, HasProcesses}
use Rattle.kpn_book.proofs.open_book.claims.claim_processes.Given as goal

abbrev pub invariant-processes : goal.invariant-processes
invariant-processes g l = HasProcesses (take l.k l.of) l.fn.batch.tables l.machine l.batch
