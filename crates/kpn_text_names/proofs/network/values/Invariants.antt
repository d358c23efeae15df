-- The values of the literals that were passed.
use Rattle.kpn_text_names.proofs.Common.{◌≡◌, take, map, literal_value, literal_seen}
use Rattle.kpn_text_names.proofs.network.values.Given as goal

abbrev pub invariant-loop-literal : goal.invariant-loop-literal
invariant-loop-literal l = l.values ≡ map literal_value (map literal_seen (take l.literal-index l.literals))
