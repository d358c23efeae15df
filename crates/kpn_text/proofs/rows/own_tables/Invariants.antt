-- What is put so far, and the tables still to come, with the values that are left, are all tables.
use Rattle.kpn_text.proofs.Common.{◌≡◌, ◌++◌, List, ℕ, drop, tables_named, all_text, declaration_text}
use Rattle.kpn_text.proofs.rows.own_tables.Given as goal

abbrev pub invariant-loop-row : goal.invariant-loop-row
invariant-loop-row l =
    (more : List ℕ)
    → l.out.items ++ all_text declaration_text (tables_named (drop l.row-index l.rows) l.left) more
    ≡ l.initial.out.items ++ all_text declaration_text (tables_named l.rows l.list) more
