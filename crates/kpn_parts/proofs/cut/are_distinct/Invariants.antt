use Rattle.kpn_parts.proofs.Common.{ℕ, ◌≢◌, ◌<◌, whole_channel}
use Rattle.kpn_parts.proofs.Cuts.{DifferBelow}
use Rattle.kpn_parts.proofs.cut.are_distinct.Given as goal

abbrev pub invariant-loop-c : goal.invariant-loop-c
invariant-loop-c l = DifferBelow l.part l.c

abbrev pub invariant-loop-d : goal.invariant-loop-d
invariant-loop-d l =
    DifferBelow l.part l.c
    × ((d : ℕ) → d < l.d → whole_channel l.part l.c ≢ whole_channel l.part d)
