use Rattle.kpn_command_views.proofs.Common.{◌≡◌, longest_below}
use Rattle.kpn_command_views.proofs.scale.longest_name.Given as goal

abbrev pub invariant-loop-p : goal.invariant-loop-p
invariant-loop-p l = l.longest ≡ longest_below l.document.names.instances l.p
