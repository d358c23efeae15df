-- A block does its statements one after the other, a loop its turns.
use Rattle.kpn_lang.proofs.Common.{◌-◌, Ok, sym, ap, ◌∙◌, arith, term_of}
use Rattle.kpn_lang.proofs.Following.{LeadsTo-trans, LeadsTo-leave, LeadsTo-cut, LeadsTo-turn_fault}
use Rattle.kpn_lang.proofs.Interpreting.{body_at, IsReady-read, LeadsTo-block, LeadsTo-statement, LeadsTo-statement_ends, LeadsTo-one_turn, LeadsTo-turn_that_ends, MayRun-does, trees}
use Rattle.kpn_lang.proofs.plain.Interpreter.+interpreter.Goals as goal

pub block-loop-statement-init : goal.block-loop-statement-init
block-loop-statement-init t c = LeadsTo-block _ c.requires.program _ _ _ _ c.in-Some.ensures.1

pub block-statement-requires : goal.block-statement-requires
block-statement-requires t c =
    let fits = MayRun-does _ _ _ _ _ c.loop-statement.invariant c.requires in
    let ready = IsReady-read c.in-Some.statements.now c.loop-statement.statement-index c.statement-item.result
    (omega arith) c.statement-item.is _ _ c.requires.program c.in-Some.ensures.0 c.in-Some.ensures.1 in
    (omega arith, (fits, (ready.names, ready.ports)))

pub block-returns-in-Some-2 : goal.block-returns-in-Some-2
block-returns-in-Some-2 t c =
    LeadsTo-statement_ends _ _ _ c.in-Some.statements.now c.loop-statement.statement-index c.statement-item.result _ _ _
    (omega arith) c.statement-item.is c.loop-statement.invariant c.in-Some-2.ending
    (rw c.in-Some-2.is at c.in_ok-ending.ensures)

pub block-loop-statement-preserved : goal.block-loop-statement-preserved
block-loop-statement-preserved t c =
    LeadsTo-statement _ _ _ c.in-Some.statements.now c.loop-statement.statement-index c.statement-item.result _ _ _
    (omega arith) c.statement-item.is c.loop-statement.invariant (rw c.in_default-2.is at c.in_ok-ending.ensures)

pub statement-returns-in-Ok-set : goal.statement-returns-in-Ok-set
statement-returns-in-Ok-set t c =
    rw c.in-Set.is (c.in-Ok-set.ensures (trees c.args.self.now.program.now) c.args.self.now.turns)

pub statement-returns-in-Err-set : goal.statement-returns-in-Err-set
statement-returns-in-Err-set t c =
    rw c.in-Set.is (c.in-Err-set.ensures (trees c.args.self.now.program.now) c.args.self.now.turns)

pub repeat-returns-in-Ok-false : goal.repeat-returns-in-Ok-false
repeat-returns-in-Ok-false t c =
    let n = c.args.self.now.turns in
    let test = term_of c.args.test.now in
    let body = body_at c.args.self.now.program.now c.args.body n in
    LeadsTo-trans _ _ _ _ _ _ c.loop-turn.invariant
    (LeadsTo-leave test body c.loop-turn.state (n - c.loop-turn._turn)
    (sym c.in-Ok-false.ensures ∙ ap Ok c.in-Ok-false.field-0-test))

pub repeat-returns-in-Err : goal.repeat-returns-in-Err
repeat-returns-in-Err t c =
    let n = c.args.self.now.turns in
    let test = term_of c.args.test.now in
    let body = body_at c.args.self.now.program.now c.args.body n in
    LeadsTo-trans _ _ _ _ _ _ c.loop-turn.invariant
    (LeadsTo-turn_fault test body c.loop-turn.state (n - c.loop-turn._turn) c.in-Err.fault (sym c.in-Err.ensures))

pub repeat-returns-in-Some : goal.repeat-returns-in-Some
repeat-returns-in-Some t c =
    let n = c.args.self.now.turns in
    let test = term_of c.args.test.now in
    let body = body_at c.args.self.now.program.now c.args.body n in
    LeadsTo-turn_that_ends _ test body n c.loop-turn._turn _ c.loop-turn.state _ c.loop-turn-test.true
    c.loop-turn.invariant
    (sym c.in-Ok-true.ensures ∙ ap Ok c.in-Ok-true.field-0-test) c.in-Some.ending
    (rw c.in-Some.is at c.in_ok-ending.ensures)

pub repeat-loop-turn-preserved : goal.repeat-loop-turn-preserved
repeat-loop-turn-preserved t c =
    let n = c.args.self.now.turns in
    let test = term_of c.args.test.now in
    let body = body_at c.args.self.now.program.now c.args.body n in
    LeadsTo-one_turn _ test body n c.loop-turn._turn _ c.loop-turn.state _ c.loop-turn-test.true c.loop-turn.invariant
    (sym c.in-Ok-true.ensures ∙ ap Ok c.in-Ok-true.field-0-test) (rw c.in_default.is at c.in_ok-ending.ensures)

pub repeat-returns-in-Ok-true-test : goal.repeat-returns-in-Ok-true-test
repeat-returns-in-Ok-true-test t c =
    let n = c.args.self.now.turns in
    let test = term_of c.args.test.now in
    let body = body_at c.args.self.now.program.now c.args.body n in
    LeadsTo-trans _ _ _ _ _ _ c.loop-turn.invariant
    (LeadsTo-cut test body c.loop-turn.state (n - c.loop-turn._turn) (omega arith)
    (sym c.in-Ok-true-test.ensures ∙ ap Ok c.in-Ok-true-test.field-0-test))

pub repeat-returns-in-Ok-false-test : goal.repeat-returns-in-Ok-false-test
repeat-returns-in-Ok-false-test t c =
    let n = c.args.self.now.turns in
    let test = term_of c.args.test.now in
    let body = body_at c.args.self.now.program.now c.args.body n in
    LeadsTo-trans _ _ _ _ _ _ c.loop-turn.invariant
    (LeadsTo-leave test body c.loop-turn.state (n - c.loop-turn._turn)
    (sym c.in-Ok-false-test.ensures ∙ ap Ok c.in-Ok-false-test.field-0-test))

pub repeat-returns-in-Err-test : goal.repeat-returns-in-Err-test
repeat-returns-in-Err-test t c =
    let n = c.args.self.now.turns in
    let test = term_of c.args.test.now in
    let body = body_at c.args.self.now.program.now c.args.body n in
    LeadsTo-trans _ _ _ _ _ _ c.loop-turn.invariant
    (LeadsTo-turn_fault test body c.loop-turn.state (n - c.loop-turn._turn) c.in-Err-test.fault
    (sym c.in-Err-test.ensures))
