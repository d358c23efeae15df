use Rattle.kpn_command_views.proofs.Common.{◌≡◌, ◌+◌, ◌++◌, string_bytes, each_below, axis_line}
use Rattle.kpn_command_views.proofs.frame.push_axis.Given as goal

abbrev pub invariant-loop-k : goal.invariant-loop-k
invariant-loop-k l =
    string_bytes l.text
    ≡ string_bytes l.initial.text ++ each_below l.k (λ k. axis_line l.scale l.processes (l.scale.front + k))
