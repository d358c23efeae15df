use Rattle.kpn_book.proofs.Common.{sym, ◌∙◌, subst, IsOwnWait}
use Rattle.kpn_net.proofs.Findings.{read_below, written_below}
use Rattle.kpn_book.proofs.open_book.claims.hold_wait.Goals as goal

pub hold-requires-clause-channel : goal.hold-requires-clause-channel
hold-requires-clause-channel g c =
    read_below c.args.batch.now.tables c.requires.network c.args.p c.in-Empty.c
    (subst (IsOwnWait c.args.batch.now.tables c.args.p) (sym c.wait.ensures ∙ c.in-Empty.is)
    (c.requires.waits.own c.args.p c.requires.process))

pub hold-requires-in-Full-clause-channel : goal.hold-requires-in-Full-clause-channel
hold-requires-in-Full-clause-channel g c =
    written_below c.args.batch.now.tables c.requires.network c.args.p c.in-Full.c
    (subst (IsOwnWait c.args.batch.now.tables c.args.p) (sym c.wait.ensures ∙ c.in-Full.is)
    (c.requires.waits.own c.args.p c.requires.process))
