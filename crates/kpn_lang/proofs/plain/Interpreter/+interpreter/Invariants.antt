-- A call goes to greater block numbers; a block has done the statements before the index, a loop the turns so far.
use Rattle.kpn_lang.proofs.Common.{◌+◌, ◌-◌, ◌*◌, length, drop, term_of, statement_of, statements_of, tree_of, tree_over, run, turns, LeadsTo}
use Rattle.kpn_lang.proofs.Interpreting.{blocks_inside}
use Rattle.kpn_lang.proofs.plain.Interpreter.+interpreter.Given as goal

abbrev pub decreases-block : goal.decreases-block
decreases-block l = 3 * (length l.self.now.program.now.blocks - l.block)

abbrev pub decreases-repeat : goal.decreases-repeat
decreases-repeat l = 3 * (length l.self.now.program.now.blocks - l.body) + 1

abbrev pub decreases-statement : goal.decreases-statement
decreases-statement l = 3 * blocks_inside (length l.self.now.program.now.blocks) (statement_of l.statement.now) + 2

abbrev pub invariant-block-loop-statement : goal.invariant-block-loop-statement
invariant-block-loop-statement l =
    let inner = tree_of l.self.program.now.blocks in
    LeadsTo (run (inner l.block) l.self.turns) (run
    (tree_over inner (drop l.statement-index (statements_of l.statements))) l.self.turns) l.fn.state l.state

abbrev pub invariant-repeat-loop-turn : goal.invariant-repeat-loop-turn
invariant-repeat-loop-turn l =
    let body = run (tree_of l.self.program.now.blocks l.body) l.self.turns in
    LeadsTo (turns l.self.turns (term_of l.test) body)
    (turns (l.self.turns - l._turn) (term_of l.test) body) l.fn.state l.state
