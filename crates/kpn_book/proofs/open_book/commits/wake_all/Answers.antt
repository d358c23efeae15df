use Rattle.kpn_book.proofs.Common.{◌<◌, length, take, get_or, arith, sym, ap, ◌∙◌, Contains-get_or, is_ready, state_at, made_ready, all_made_ready}
use Rattle.std.proofs.Math.Numerals.{suc-eq-add-one}
use Rattle.std.proofs.Math.Seq.{take-suc}
use Rattle.kpn_machine.proofs.Ending.{not_before}
use Rattle.kpn_book.proofs.AllReady.{states_length, are_as_before, all_made_ready-push}
use Rattle.kpn_book.proofs.open_book.commits.wake_all.Goals as goal

pub make_ready-requires-clause-process : goal.make_ready-requires-clause-process
make_ready-requires-clause-process g c =
    let woken = c.args.woken.now in
    let k = c.processes.i in
    let below : k < length woken = omega arith in
    let there = (c.requires.each (get_or woken k 0) (Contains-get_or woken k 0 below)).0 in
    let long = states_length (take k woken) c.args.schedule.now in
    let now = ap (λ s. length s.states) c.processes.invariant in
    omega (arith, there, long, now)

pub make_ready-requires-clause-state : goal.make_ready-requires-clause-state
make_ready-requires-clause-state g c =
    let woken = c.args.woken.now in
    let k = c.processes.i in
    let below : k < length woken = omega arith in
    let not_ready = (c.requires.each (get_or woken k 0) (Contains-get_or woken k 0 below)).1 in
    ap (λ s. is_ready (state_at s.states (get_or woken k 0))) c.processes.invariant
    ∙ ap is_ready
    (are_as_before (take k woken) c.args.schedule.now (get_or woken k 0) (not_before woken c.requires.once k below))
    ∙ not_ready

pub processes-preserved : goal.processes-preserved
processes-preserved g c =
    let woken = c.args.woken.now in
    let k = c.processes.i in
    let below : k < length woken = omega arith in
    c.make_ready.ensures
    ∙ ap (made_ready (get_or woken k 0)) c.processes.invariant
    ∙ sym (all_made_ready-push (take k woken) (get_or woken k 0) c.args.schedule.now)
    ∙ ap (λ xs. all_made_ready xs c.args.schedule.now)
    (sym (take-suc woken k 0 below) ∙ ap (λ n. take n woken) (suc-eq-add-one k))
