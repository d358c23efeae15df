use Rattle.kpn_parts.proofs.Common.{ℕ, ◌<◌, List, [], ◌∷◌, ◌++◌, get_or, PartEvent, PartLink, IsSentOn, AreCarried}
use Rattle.kpn_parts.proofs.joining.may_come.Given as goal

abbrev pub invariant-loop-l : goal.invariant-loop-l
invariant-loop-l l =
    (order : List PartEvent) → AreCarried l.links order l.carried → (j : ℕ) (x : PartLink) → j < l.l
    → IsSentOn (order ++ l.placed ∷ []) (get_or l.links j x)
