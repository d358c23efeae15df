use Rattle.kpn_step.proofs.Common.{◌≡◌, true, length, take, pointwise}
use Rattle.kpn_step.proofs.lists.are_same.Given as goal

abbrev pub invariant-items : goal.invariant-items
invariant-items g l =
    (length l.left ≡ length l.right) × (pointwise g.T.PartialEq.eq (take l.i l.left) (take l.i l.right) ≡ true)
