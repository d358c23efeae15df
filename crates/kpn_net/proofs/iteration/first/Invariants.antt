use Rattle.kpn_net.proofs.Common.{◌≡◌, map, take, count_by, range_with_len, is_source, first_round, given_by}
use Rattle.kpn_net.proofs.iteration.first.Given as goal

abbrev pub invariant-loop-c : goal.invariant-loop-c
invariant-loop-c l =
    record {
      lists : l.lists.items ≡ map (first_round l.network (given_by l.network l.given)) (range_with_len 0 l.c);
      source : l.source ≡ count_by is_source (take l.c l.network.channels);
    }
