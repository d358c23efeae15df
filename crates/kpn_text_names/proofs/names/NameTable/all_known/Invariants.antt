-- The names that remain, taken from here, lead to the same as all of them.
use Rattle.kpn_text_names.proofs.Common.{◌≡◌, drop, names_seen, each, with_number, all_known}
use Rattle.kpn_text_names.proofs.names.NameTable.all_known.Given as goal

abbrev pub invariant-loop-name : goal.invariant-loop-name
invariant-loop-name l =
    each (with_number l.self) l.numbers (names_seen (drop l.name-index l.names))
    ≡ all_known l.self (names_seen l.names)
