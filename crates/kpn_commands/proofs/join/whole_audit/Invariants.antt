-- What is shown of the homes so far.
use Rattle.kpn_commands.proofs.Common.{◌≡◌, map, take, audited_journal, audited_capacity}
use Rattle.kpn_commands.proofs.join.whole_audit.Given as goal

abbrev pub invariant-loop-c : goal.invariant-loop-c
invariant-loop-c l =
    (l.journals.items ≡ map (audited_journal l.audits) (take l.c l.homes))
    × (l.caps.items ≡ map (audited_capacity l.audits) (take l.c l.homes))
