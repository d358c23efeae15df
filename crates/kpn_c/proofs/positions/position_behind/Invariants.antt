-- The bytes that remain lead from here to the same position as all of them.
use Rattle.std.proofs.Common.{◌≡◌, ◌≤◌, ◌+◌, drop, fold}
use Rattle.kpn_c.specs.Explaining.{next_position, position_behind}
use Rattle.kpn_c.proofs.positions.position_behind.Given as goal

abbrev pub invariant-loop-byte : goal.invariant-loop-byte
invariant-loop-byte l = record {
  whole : fold next_position (record { line = l.line; column = l.column }) (drop l.byte-index l.text)
      ≡ position_behind l.text;
  lines : l.line ≤ l.byte-index + 1;
  columns : l.column ≤ l.byte-index + 1;
}
