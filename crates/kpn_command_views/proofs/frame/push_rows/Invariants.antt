use Rattle.kpn_command_views.proofs.Common.{◌≡◌, ◌++◌, string_bytes, each_below, row}
use Rattle.kpn_command_views.proofs.frame.push_rows.Given as goal

abbrev pub invariant-loop-p : goal.invariant-loop-p
invariant-loop-p l =
    string_bytes l.text ≡ string_bytes l.initial.text ++ each_below l.p (row l.document.names.instances l.scale)
