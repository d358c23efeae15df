use Rattle.kpn_book.proofs.Common.{◌≡◌, length, sym, ap, ◌∙◌, subst, arith, book_of, SettleBelow}
use Rattle.kpn_book.proofs.Settling.{settled_at_first, settled_next}
use Rattle.kpn_book.proofs.open_book.OpenBook.settle_region.Goals as goal

pub processes-init : goal.processes-init
processes-init g c =
    settled_at_first c.args.batch.now (book_of c.args.self.now) c.requires.kept c.requires.frames

pub settle-memory-requires-clause-tables : goal.settle-memory-requires-clause-tables
settle-memory-requires-clause-tables g c = c.requires.tables ∙ sym c.processes.invariant.tables

pub settle-memory-requires-clause-process : goal.settle-memory-requires-clause-process
settle-memory-requires-clause-process g c =
    let same = ap (λ t. length t.instances) c.processes.invariant.tables in
    omega (arith, c.processes-test.true, c.instances-p-end.ensures, same)

pub settle-memory-requires-clause-kept : goal.settle-memory-requires-clause-kept
settle-memory-requires-clause-kept g c = c.processes.invariant.kept

pub settle-memory-requires-clause-frame : goal.settle-memory-requires-clause-frame
settle-memory-requires-clause-frame g c =
    c.processes.invariant.frames c.processes.p (omega arith)
    (omega (arith, c.processes-test.true, c.instances-p-end.ensures))

pub processes-preserved : goal.processes-preserved
processes-preserved g c =
    settled_next c.args.batch.now (book_of c.args.self.now) (book_of c.processes.self) (book_of c.settle-memory.new.self)
    c.processes.p c.processes.memory c.settle-memory.result c.processes.invariant c.settle-memory.ensures.settles
    c.settle-memory.ensures.kept

pub returns-clause-settle : goal.returns-clause-settle
returns-clause-settle g c =
    let all : c.processes.p ≡ length c.args.self.now.network.now.instances =
    omega (arith, c.processes-test.false, c.instances-p-end.ensures) in
    subst
    (λ n. SettleBelow c.args.batch.now (book_of c.args.self.now) n c.processes.memory (book_of c.processes.self)) all
    c.processes.invariant.settle

pub returns-clause-kept : goal.returns-clause-kept
returns-clause-kept g c = c.processes.invariant.kept
