use Rattle.kpn_pool_desk.proofs.Common.{◌<◌, take, All}
use Rattle.kpn_pool_desk.proofs.division.are_below.Given as goal

abbrev pub invariant-numbers : goal.invariant-numbers
invariant-numbers l = All (λ p. p < l.count) (take l.k l.numbers)
