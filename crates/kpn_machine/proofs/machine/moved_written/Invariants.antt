use Rattle.kpn_machine.proofs.Common.{◌≡◌, map, all_put}
use Rattle.kpn_machine.proofs.machine.moved_written.Given as goal

abbrev pub invariant-channels : goal.invariant-channels
invariant-channels g l = l.written.items ≡ map all_put l.yielded
