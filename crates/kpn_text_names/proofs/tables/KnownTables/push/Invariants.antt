-- The row is there, and the values of the literals that were passed are behind those before.
use Rattle.kpn_text_names.proofs.Common.{◌≡◌, ◌++◌, length, take, map, literal_value, literal_seen, with_row}
use Rattle.kpn_text_names.proofs.tables.KnownTables.push.Given as goal

abbrev pub invariant-loop-literal : goal.invariant-loop-literal
invariant-loop-literal l = record {
  rows : l.self.rows ≡ with_row l.fn.self.rows l.table.name.bytes.now (length l.table.values.items);
  values : l.self.values ≡ l.fn.self.values
      ++ map literal_value (map literal_seen (take l.literal-index l.table.values.items));
  used : l.self.used ≡ l.fn.self.used;
}
