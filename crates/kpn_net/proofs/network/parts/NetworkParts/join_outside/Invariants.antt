use Rattle.kpn_net.proofs.Common.{tables_of, Keeps}
use Rattle.kpn_net.proofs.SideLemmas.{outside_writers, outside_readers}
use Rattle.kpn_net.proofs.network.parts.NetworkParts.join_outside.Given as goal

abbrev pub invariant-loop-c : goal.invariant-loop-c
invariant-loop-c l =
    record {
      written : Keeps l.writers (outside_writers (tables_of l.self) l.c);
      read : Keeps l.readers (outside_readers (tables_of l.self) l.c);
    }
