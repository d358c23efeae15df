-- An expression is read by its operands, each with fewer levels or fewer signs and parentheses left. What was read so
-- far is the left side of what is still read.
use Rattle.kpn_text_grammar.proofs.Common.{◌+◌, ◌-◌, ◌*◌, length, tight, term, tokens_from}
use Rattle.kpn_text_grammar.proofs.TightSteps.{GoesOn}
use Rattle.kpn_text_grammar.proofs.expressions.+tight.Given as goal

abbrev pub decreases-tight : goal.decreases-tight
decreases-tight l = 4 * (l.room.levels + l.room.depth)

abbrev pub decreases-tight_operand : goal.decreases-tight_operand
decreases-tight_operand l = 4 * (l.room.levels + l.room.depth) - 1

abbrev pub decreases-behind_name : goal.decreases-behind_name
decreases-behind_name l = 4 * (l.room.levels + l.room.depth) - 2

abbrev pub decreases-call_or_name : goal.decreases-call_or_name
decreases-call_or_name l = 4 * (l.room.levels + l.room.depth) - 3

abbrev pub decreases-call : goal.decreases-call
decreases-call l = 4 * (l.room.levels + l.room.depth) - 4

abbrev pub decreases-behind_sign : goal.decreases-behind_sign
decreases-behind_sign l = 4 * (l.room.levels + l.room.depth) - 2

abbrev pub decreases-parentheses : goal.decreases-parentheses
decreases-parentheses l = 4 * (l.room.levels + l.room.depth) - 2

abbrev pub decreases-sides : goal.decreases-sides
decreases-sides l = 4 * (l.room.levels + l.room.depth) - 3

abbrev pub decreases-values : goal.decreases-values
decreases-values l = 4 * (l.room.levels + l.room.depth) - 3

abbrev pub invariant-tight-sides : goal.invariant-tight-sides
invariant-tight-sides l =
    GoesOn l.source.scope l.room.depth l.room.levels l.least l.bound l.levels (term l.root.value)
    (tokens_from l.source l.place) (tight l.source.scope l.room.depth l.room.levels l.least (tokens_from l.source l.at))

abbrev pub decreases-tight-sides : goal.decreases-tight-sides
decreases-tight-sides l = length l.source.tokens.now - l.place
