use Rattle.kpn_net.proofs.Common.{◌≡◌, ◌++◌, Family, first_round, given_by, lists_of}
use Rattle.kpn_net.proofs.RoundLemmas.{put_by_first}
use Rattle.kpn_net.proofs.iteration.next.Given as goal

abbrev pub invariant-loop-p : goal.invariant-loop-p
invariant-loop-p l =
    (family : Family) → l.before ≡ lists_of l.network family
    → l.lists.items
    ≡ lists_of l.network
    (λ c. first_round l.network (given_by l.network l.given) c ++ put_by_first l.network l.turns family c l.p)
