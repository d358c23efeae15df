use Rattle.kpn_machine.proofs.Common.{◌≡◌, ◌≤◌, length, is_some, sym, ap, ◌∙◌, arith, Empty, Writes-writer_of, writer_of-source, wait_in}
use Rattle.kpn_machine.proofs.Complete.{walk_begins, tells_source, tells_outside, tells_round, tells_ended, tells_neither, walk_on, next_there}
use Rattle.kpn_machine.proofs.machine.Machine.is_complete.Goals as goal

pub loop-step-init : goal.loop-step-init
loop-step-init g c =
    record {
      there = c.requires.channel;
      walked = walk_begins c.args.network.now c.args.self.now c.args.c;
    }

pub end_of-requires : goal.end_of-requires
end_of-requires g c =
    let writes = Writes-writer_of c.args.network.now c.in-Process.writer c.loop-step.at (sym c.in-Process.ensures) in
    let there = writes.process in
    let long = c.requires.shape.ends in
    omega arith

pub wait-requires : goal.wait-requires
wait-requires g c =
    let writes = Writes-writer_of c.args.network.now c.in-Process.writer c.loop-step.at (sym c.in-Process.ensures) in
    let there = writes.process in
    let long = c.requires.shape.waits.one_each in
    omega arith

pub returns-in_default : goal.returns-in_default
returns-in_default g c =
    tells_outside c.args.network.now c.known.ensures c.args.self.now c.args.c c.loop-step._step c.loop-step.at
    c.loop-step.invariant.walked c.loop-step.invariant.there
    (λ p w. c.in_default.not-Process p (c.writer_of.ensures ∙ w)) c.is_closed.result c.is_closed.ensures

pub returns-then-is_some : goal.returns-then-is_some
returns-then-is_some g c =
    tells_ended c.args.network.now c.known.ensures c.args.self.now c.args.c c.loop-step._step c.loop-step.at
    c.loop-step.invariant.walked c.in-Process.writer (sym c.in-Process.ensures)
    (ap is_some (sym c.end_of.ensures) ∙ sym c.is_some.ensures ∙ c.if-is_some.true)

pub returns-in_default-wait : goal.returns-in_default-wait
returns-in_default-wait g c =
    tells_neither c.args.network.now c.known.ensures c.args.self.now c.args.c c.loop-step._step c.loop-step.at
    c.loop-step.invariant.walked c.in-Process.writer (sym c.in-Process.ensures)
    (ap is_some (sym c.end_of.ensures) ∙ sym c.is_some.ensures ∙ c.if-is_some.false)
    (λ d w. c.in_default-wait.not-Empty d (c.wait.ensures ∙ w))

pub loop-step-preserved : goal.loop-step-preserved
loop-step-preserved g c =
    let t = c.args.network.now in
    let s = c.args.self.now in
    let waits : wait_in s c.in-Process.writer ≡ Empty c.in-Empty.next = sym c.in-Empty.ensures in
    record {
      there =
          next_there t c.known.ensures s c.args.c c.loop-step._step c.loop-step.at c.loop-step.invariant.walked
          c.in-Process.writer (sym c.in-Process.ensures) c.requires.shape c.in-Empty.next waits;
      walked =
          walk_on t c.known.ensures s c.args.c c.loop-step._step c.loop-step.at c.loop-step.invariant.walked
          c.in-Process.writer (sym c.in-Process.ensures) c.in-Empty.next
          (ap is_some (sym c.end_of.ensures) ∙ sym c.is_some.ensures ∙ c.if-is_some.false) waits;
    }

pub returns-then-is_source : goal.returns-then-is_source
returns-then-is_source g c =
    tells_source c.args.network.now c.known.ensures c.args.self.now c.args.c c.loop-step._step c.loop-step.at
    c.loop-step.invariant.walked c.loop-step.invariant.there
    (writer_of-source c.args.network.now c.loop-step.at (sym c.is_source.ensures ∙ c.if-is_source.true))
    c.is_closed-then-is_source.result c.is_closed-then-is_source.ensures

pub returns-else-is_source : goal.returns-else-is_source
returns-else-is_source g c =
    let long : length c.args.network.now.instances ≤ c.loop-step._step =
    let end = c.instances-step-end.ensures in let over = c.loop-step-test.false in omega arith in
    tells_round c.args.network.now c.known.ensures c.args.self.now c.args.c c.loop-step._step c.loop-step.at
    c.loop-step.invariant.walked long c.loop-step.invariant.there (sym c.is_source.ensures ∙ c.if-is_source.false)
