use Rattle.kpn_book.proofs.Common.{◌<◌, ◌≤◌, length, get_or, sym, ap, ◌∙◌, arith, sizes, Writes-writer_of, Ready, walk_starts, events_of}
use Rattle.kpn_book.proofs.Completing.{tells_outside, tells_round, tells_ended, tells_neither, walk_on, next_there}
use Rattle.kpn_book.proofs.report.Report.is_complete.Goals as goal

pub loop-step-init : goal.loop-step-init
loop-step-init c =
    record {
      there = c.requires.channel;
      walked = walk_starts c.args.network.now (events_of c.args.self.now) c.args.c;
    }

pub offset_bounds-as_slice-writer : goal.offset_bounds-as_slice-writer
offset_bounds-as_slice-writer c =
    let t = c.args.network.now in
    let writes = Writes-writer_of t c.in-Process.writer c.loop-step.at (sym c.in-Process.ensures) in
    let there : c.in-Process.writer < length t.instances = writes.process in
    let size = sizes t c.known.ensures in
    let few = size.instances in
    omega arith

pub bounds-as_slice-writer : goal.bounds-as_slice-writer
bounds-as_slice-writer c =
    let t = c.args.network.now in
    let writes = Writes-writer_of t c.in-Process.writer c.loop-step.at (sym c.in-Process.ensures) in
    let there : c.in-Process.writer < length t.instances = writes.process in
    let long = ap length c.as_slice.ensures ∙ c.requires.view.processes in
    omega arith

pub returns-in_default : goal.returns-in_default
returns-in_default c lists supplied =
    tells_outside c.args.network.now c.known.ensures (events_of c.args.self.now) c.requires.legal
    c.args.self.now.view c.requires.view c.args.c c.loop-step._step c.loop-step.at c.loop-step.invariant.walked
    c.loop-step.invariant.there (λ p w. c.in_default.not-Process p (c.writer_of.ensures ∙ w)) supplied.closed

pub returns-in-Ended : goal.returns-in-Ended
returns-in-Ended c lists supplied =
    tells_ended c.args.network.now c.known.ensures (events_of c.args.self.now) c.requires.legal
    c.args.self.now.view c.requires.view c.args.c c.loop-step._step c.loop-step.at c.loop-step.invariant.walked
    c.in-Process.writer (sym c.in-Process.ensures) (get_or c.as_slice.result.now c.in-Process.writer Ready)
    (ap (λ xs. get_or xs c.in-Process.writer Ready) c.as_slice.ensures) c.in-Ended.field-0 c.in-Ended.is
    supplied.closed

pub returns-in_default-state : goal.returns-in_default-state
returns-in_default-state c lists supplied =
    tells_neither c.args.network.now c.known.ensures (events_of c.args.self.now) c.requires.legal
    c.args.self.now.view c.requires.view c.args.c c.loop-step._step c.loop-step.at c.loop-step.invariant.walked
    c.in-Process.writer (sym c.in-Process.ensures) (get_or c.as_slice.result.now c.in-Process.writer Ready)
    (ap (λ xs. get_or xs c.in-Process.writer Ready) c.as_slice.ensures) c.in_default-state.not-Ended
    c.in_default-state.not-WaitsEmpty supplied.closed

pub loop-step-preserved : goal.loop-step-preserved
loop-step-preserved c =
    let t = c.args.network.now in
    let H = events_of c.args.self.now in
    let shown = ap (λ xs. get_or xs c.in-Process.writer Ready) c.as_slice.ensures in
    record {
      there =
          next_there t c.known.ensures H c.requires.legal c.args.self.now.view c.requires.view c.args.c
          c.loop-step._step c.loop-step.at c.loop-step.invariant.walked c.in-Process.writer
          (sym c.in-Process.ensures) (get_or c.as_slice.result.now c.in-Process.writer Ready) shown
          c.in-WaitsEmpty.next c.in-WaitsEmpty.is;
      walked =
          walk_on t c.known.ensures H c.requires.legal c.args.self.now.view c.requires.view c.args.c
          c.loop-step._step c.loop-step.at c.loop-step.invariant.walked c.in-Process.writer
          (sym c.in-Process.ensures) (get_or c.as_slice.result.now c.in-Process.writer Ready) shown
          c.in-WaitsEmpty.next c.in-WaitsEmpty.is;
    }

pub returns : goal.returns
returns c lists supplied =
    let long : length c.args.network.now.instances ≤ c.loop-step._step =
    let end = c.instances-step-end.ensures in let over = c.loop-step-test.false in omega arith in
    tells_round c.args.network.now c.known.ensures (events_of c.args.self.now) c.requires.legal
    c.args.self.now.view c.requires.view c.args.c c.loop-step._step c.loop-step.at c.loop-step.invariant.walked
    long c.loop-step.invariant.there supplied.closed
