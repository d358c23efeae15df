use Rattle.kpn_net.proofs.Common.{tables_of, writers_of, readers_of, Keeps}
use Rattle.kpn_net.proofs.SideLemmas.{first_instances}
use Rattle.kpn_net.proofs.network.parts.NetworkParts.count_ends.Given as goal

abbrev pub invariant-loop-p : goal.invariant-loop-p
invariant-loop-p l =
    record {
      written : Keeps l.writers (writers_of (first_instances l.p (tables_of l.self)));
      read : Keeps l.readers (readers_of (first_instances l.p (tables_of l.self)));
    }
