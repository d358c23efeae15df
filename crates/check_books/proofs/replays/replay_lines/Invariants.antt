use Rattle.kpn_machine.specs.Machine.{IsMachine}
use Rattle.check_books.proofs.replays.replay_lines.Given as goal

abbrev pub invariant-loop-line : goal.invariant-loop-line
invariant-loop-line g l =
    (goal.iterator-loop-line g).can_next l.line-iterator × (goal.iterator-loop-line g).is_finite l.line-iterator
    × IsMachine l.network l.state
