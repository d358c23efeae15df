use Rattle.std.proofs.Common.{length, ap, ◌∙◌}
use Rattle.kpn_net.proofs.RoundLemmas.{length-lists_of}
use Rattle.kpn_net.proofs.iteration.rounds.Goals as goal

pub next-requires-clause-before : goal.next-requires-clause-before
next-requires-clause-before c =
    ap length c.deref.ensures.value ∙ length-lists_of c.args.network.now _ c.rounds.lists.items c.rounds.invariant
