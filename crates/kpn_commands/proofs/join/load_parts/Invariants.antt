-- The parts so far are loaded.
use Rattle.kpn_commands.proofs.Common.{map, AreLoaded}
use Rattle.kpn_commands.proofs.join.load_parts.Given as goal

abbrev pub invariant-loop-r : goal.invariant-loop-r
invariant-loop-r g l = AreLoaded (g.S.Shelf.may_give l.shelf) (map (λ word. word.now) l.words) l.r l.loaded
