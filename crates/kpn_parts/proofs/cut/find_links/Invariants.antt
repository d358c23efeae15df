use Rattle.kpn_parts.proofs.Cuts.{HaveLinks}
use Rattle.kpn_parts.proofs.cut.find_links.Given as goal

abbrev pub invariant-loop-r : goal.invariant-loop-r
invariant-loop-r l = HaveLinks l.whole l.parts l.r 0 l.links.items

abbrev pub invariant-loop-c : goal.invariant-loop-c
invariant-loop-c l = HaveLinks l.whole l.parts l.r l.c l.links.items
