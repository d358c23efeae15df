-- What is put so far, and the tables still to come, are all tables.
use Rattle.kpn_text.proofs.Common.{◌≡◌, ◌++◌, List, ℕ, drop, map, table_named, all_text, table_text}
use Rattle.kpn_text.proofs.rows.shared_tables.Given as goal

abbrev pub invariant-loop-shared : goal.invariant-loop-shared
invariant-loop-shared l =
    (more : List ℕ)
    → l.out.items ++ all_text table_text (map table_named (drop l.shared-index l.tables)) more
    ≡ l.initial.out.items ++ all_text table_text (map table_named l.tables) more
