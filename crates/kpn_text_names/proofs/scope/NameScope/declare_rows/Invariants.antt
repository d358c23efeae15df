-- The arrays and tables that remain, taken from here, lead to the same as all of them.
use Rattle.kpn_text_names.proofs.Common.{◌≡◌, drop, map, declaration_seen, each, declare}
use Rattle.kpn_text_names.proofs.scope.NameScope.declare_rows.Given as goal

abbrev pub invariant-loop-declaration : goal.invariant-loop-declaration
invariant-loop-declaration l =
    each (declare l.shared) l.self (map declaration_seen (drop l.declaration-index l.declarations))
    ≡ each (declare l.shared) l.fn.self (map declaration_seen l.declarations)
