-- The bytes that remain lead from here to the same place as all of them.
use Rattle.kpn_command_explain.proofs.Common.{◌≡◌, ◌≤◌, ◌+◌, drop, fold, place_after_byte, place_behind}
use Rattle.kpn_command_explain.proofs.lines.place_behind.Given as goal

abbrev pub invariant-loop-byte : goal.invariant-loop-byte
invariant-loop-byte l = record {
  whole : fold place_after_byte (record { line = l.line; column = l.column }) (drop l.byte-index l.text)
      ≡ place_behind l.text;
  lines : l.line ≤ l.byte-index + 1;
  columns : l.column ≤ l.byte-index + 1;
}
