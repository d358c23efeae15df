use Rattle.kpn_machine.proofs.Common.{◌≡◌, map, kept_journal}
use Rattle.kpn_machine.proofs.machine.moved_journals.Given as goal

abbrev pub invariant-channels : goal.invariant-channels
invariant-channels g l = l.journals.items ≡ map kept_journal l.yielded
