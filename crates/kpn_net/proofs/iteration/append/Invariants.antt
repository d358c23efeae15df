use Rattle.kpn_net.proofs.Common.{◌≡◌, ◌++◌, length, map, take, range_with_len, Family, put_on}
use Rattle.kpn_net.proofs.iteration.append.Given as goal

abbrev pub invariant-loop-said : goal.invariant-loop-said
invariant-loop-said l =
    (so_far : Family) → l.initial.lists ≡ map so_far (range_with_len 0 (length l.initial.lists))
    → l.lists
    ≡ map (λ c. so_far c ++ put_on l.outs (take l.said-index l.talk) c) (range_with_len 0 (length l.initial.lists))
