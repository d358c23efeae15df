-- The tables that remain, taken from here, lead to the same as all of them.
use Rattle.kpn_text_names.proofs.Common.{◌≡◌, drop, map, table_seen, each, with_shared, shared_of}
use Rattle.kpn_text_names.proofs.tables.SharedTables.read.Given as goal

abbrev pub invariant-loop-table : goal.invariant-loop-table
invariant-loop-table l =
    each with_shared l.read (map table_seen (drop l.table-index l.tables)) ≡ shared_of (map table_seen l.tables)
