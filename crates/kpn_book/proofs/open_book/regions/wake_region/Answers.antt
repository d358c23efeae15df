use Rattle.kpn_book.proofs.Common.{◌≡◌, length, ap, sym, ◌∙◌, arith, range_with_len, wait_at, is_in_region, woken_if, all_woken}
use Rattle.kpn_book.proofs.Queueing.{range_next}
use Rattle.kpn_book.proofs.Regions.{length_woken, all_woken-push}
use Rattle.kpn_book.proofs.open_book.regions.wake_region.Goals as goal

pub is_within-within-requires : goal.is_within-within-requires
is_within-within-requires g c = omega (arith, c.processes-test.true, c.len-p-end.ensures, c.requires.processes)

pub wait-wait-requires : goal.wait-wait-requires
wait-wait-requires g c = omega (arith, c.processes-test.true, c.len-p-end.ensures, c.requires.waits)

pub wake_if-requires : goal.wake_if-requires
wake_if-requires g c =
    let same =
    ap (λ s. length s.states) c.processes.invariant
    ∙ length_woken (is_in_region c.args.batch.now.now) c.args.machine.now.waits (range_with_len 0 c.processes.p)
    c.args.schedule.now in
    omega (arith, c.processes-test.true, c.len-p-end.ensures, same)

pub processes-preserved : goal.processes-preserved
processes-preserved g c =
    let within = is_in_region c.args.batch.now.now in
    let waits = c.args.machine.now.waits in
    let k = c.processes.p in
    c.wake_if.ensures
    ∙ ap (λ w. woken_if w c.wait-wait.result k c.processes.schedule) c.is_within-within.ensures
    ∙ ap (λ w. woken_if (within k) w k c.processes.schedule) c.wait-wait.ensures
    ∙ ap (woken_if (within k) (wait_at waits k) k) c.processes.invariant
    ∙ sym (all_woken-push within waits (range_with_len 0 k) k c.args.schedule.now)
    ∙ ap (λ xs. all_woken within waits xs c.args.schedule.now) (sym (range_next k))

pub returns : goal.returns
returns g c =
    let all : c.processes.p ≡ length c.args.schedule.now.states =
    omega (arith, c.processes-test.false, c.len-p-end.ensures) in
    c.processes.invariant
    ∙ ap
    (λ n. all_woken (is_in_region c.args.batch.now.now) c.args.machine.now.waits (range_with_len 0 n)
    c.args.schedule.now) all
