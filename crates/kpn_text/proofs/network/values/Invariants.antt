-- The values of the tables that were passed are after those of the process.
use Rattle.kpn_text.proofs.Common.{◌≡◌, ◌++◌, take, flat_map, values_at}
use Rattle.kpn_text.proofs.network.values.Given as goal

abbrev pub invariant-loop-number : goal.invariant-loop-number
invariant-loop-number l =
    l.values.items ≡ l.scope.tables.values ++ flat_map (values_at l.shared) (take l.number-index l.scope.tables.used)
