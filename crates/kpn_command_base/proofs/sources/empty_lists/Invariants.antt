use Rattle.std.proofs.Common.{◌≡◌, [], replicate}
use Rattle.kpn_command_base.proofs.sources.empty_lists.Given as goal

abbrev pub invariant-loop-list : goal.invariant-loop-list
invariant-loop-list l = l.lists.items ≡ replicate l._list []
