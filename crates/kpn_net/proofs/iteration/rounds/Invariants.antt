use Rattle.kpn_net.proofs.Common.{◌≡◌, round, given_by, lists_of}
use Rattle.kpn_net.proofs.iteration.rounds.Given as goal

abbrev pub invariant-rounds : goal.invariant-rounds
invariant-rounds l = l.lists.items ≡ lists_of l.network (round l.network (given_by l.network l.given) l.n l._round)
