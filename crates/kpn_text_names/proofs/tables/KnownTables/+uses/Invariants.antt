-- The statements that remain, read from here, lead to the same as all of them.
use Rattle.kpn_text_names.proofs.Common.{◌≡◌, drop, block_seen, used_in}
use Rattle.kpn_text_names.proofs.tables.KnownTables.+uses.Given as goal

abbrev pub invariant-add_all_uses-loop-statement : goal.invariant-add_all_uses-loop-statement
invariant-add_all_uses-loop-statement l =
    used_in l.shared l.self (block_seen (drop l.statement-index l.statements))
    ≡ used_in l.shared l.fn.self (block_seen l.statements)
