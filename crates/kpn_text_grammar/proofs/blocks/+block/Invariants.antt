-- A block is read by its statements, one level deeper each; what was read so far comes before what is still read.
use Rattle.kpn_text_grammar.proofs.Common.{◌+◌, ◌-◌, ◌*◌, length, stands_in_block, one_statement, block, second_block, all_of, tokens_from, statements_seen}
use Rattle.kpn_text_grammar.proofs.Rounds.{StandsAt}
use Rattle.kpn_text_grammar.proofs.blocks.+block.Given as goal

abbrev pub decreases-block : goal.decreases-block
decreases-block l = 8 * l.depth

abbrev pub decreases-block_behind : goal.decreases-block_behind
decreases-block_behind l = 8 * l.depth + 7

abbrev pub decreases-statements : goal.decreases-statements
decreases-statements l = 8 * l.depth + 6

abbrev pub decreases-one_statement : goal.decreases-one_statement
decreases-one_statement l = 8 * l.depth + 5

abbrev pub decreases-branch : goal.decreases-branch
decreases-branch l = 8 * l.depth + 5

abbrev pub decreases-if_statement : goal.decreases-if_statement
decreases-if_statement l = 8 * l.depth + 4

abbrev pub decreases-else_behind : goal.decreases-else_behind
decreases-else_behind l = 8 * l.depth + 3

abbrev pub decreases-second_block : goal.decreases-second_block
decreases-second_block l = 8 * l.depth + 2

abbrev pub decreases-while_statement : goal.decreases-while_statement
decreases-while_statement l = 8 * l.depth + 1

abbrev pub invariant-statements-statements : goal.invariant-statements-statements
invariant-statements-statements l =
    let s = l.source.scope in
    let inner = block s l.depth in
    let second = second_block s l.depth in
    StandsAt stands_in_block (λ i. one_statement s inner second) (statements_seen l.found.items)
    (length l.found.items) (tokens_from l.source l.place) (all_of stands_in_block (one_statement s inner second)
    (tokens_from l.source l.at))

abbrev pub decreases-statements-statements : goal.decreases-statements-statements
decreases-statements-statements l = length l.source.tokens.now - l.place
