use Rattle.std.proofs.lemmas.Bool.{false≢true, both_ways}
use Rattle.kpn_machine.proofs.Applying.{due_exactly}
use Rattle.kpn_machine.proofs.machine.Machine.is_due.Goals as goal

pub returns-then-not-asks_for : goal.returns-then-not-asks_for
returns-then-not-asks_for g c =
    let exactly =
    due_exactly c.args.network.now c.args.self.now c.args.event c.args.stop c.requires.stands in (
      (λ no. absurd (false≢true no)),
      (λ due. absurd (both_ways _ c.if-not-asks_for.true (c.asks_for.ensures.1 (exactly.1 due).0))),
    )

pub returns : goal.returns
returns g c =
    let exactly =
    due_exactly c.args.network.now c.args.self.now c.args.event c.args.stop c.requires.stands in (
      (λ yes. exactly.0 (c.asks_for.ensures.0 c.if-not-asks_for.false, c.is_ready.ensures.0 yes)),
      (λ due. c.is_ready.ensures.1 (exactly.1 due).1),
    )
