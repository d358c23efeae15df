-- The names that remain, taken from here, lead to the same as all of them.
use Rattle.kpn_text_names.proofs.Common.{◌≡◌, drop, names_seen, each, declared_in}
use Rattle.kpn_text_names.proofs.scope.NameScope.declare_all.Given as goal

abbrev pub invariant-loop-name : goal.invariant-loop-name
invariant-loop-name l =
    each (declared_in l.shared l.part) l.self (names_seen (drop l.name-index l.names))
    ≡ each (declared_in l.shared l.part) l.fn.self (names_seen l.names)
