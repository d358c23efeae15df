-- The process is along its way, of which less is left after each thing said.
use Rattle.kpn_step.proofs.Along.{Along, way_left}
use Rattle.kpn_step.proofs.whole_lists.alone.Given as goal

abbrev pub invariant-says : goal.invariant-says
invariant-says l = Along l.program l.pars l.lists l.quota l.unused l.talk l.frame l.taken.items

abbrev pub decreases-says : goal.decreases-says
decreases-says l = way_left l.program.blocks l.unused l.frame
