-- What is written so far and the items that are still to come are the whole.
use Rattle.kpn_command_base.proofs.Common.{◌≡◌, ◌≤◌, ◌++◌, ◌-◌, length, drop, string_bytes, spaced_items}
use Rattle.kpn_command_base.proofs.audit_text.push_journal.Given as goal

abbrev pub invariant-pieces : goal.invariant-pieces
invariant-pieces l =
    (string_bytes l.text ++ spaced_items (drop l.place l.journal) ≡ string_bytes l.initial.text ++ spaced_items
    l.journal)
    × (l.place ≤ length l.journal)

abbrev pub decreases-pieces : goal.decreases-pieces
decreases-pieces l = length l.journal - l.place
