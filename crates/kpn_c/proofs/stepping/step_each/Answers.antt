use Rattle.kpn_c.specs.Calls.{no_turn, one_turn_more}
use Rattle.kpn_c.proofs.stepping.step_each.Goals as goal

pub turns-init : goal.turns-init
turns-init c = record { turns = no_turn }

pub turns-preserved : goal.turns-preserved
turns-preserved c =
    let done = rw c.in-Ok-Some.field-0-is at c.in-Ok-Some.ensures.step in
    record { turns = one_turn_more c.turns.book c.step_next.new.self c.in-Ok-Some.field-0-0 c.turns.invariant.turns done }
