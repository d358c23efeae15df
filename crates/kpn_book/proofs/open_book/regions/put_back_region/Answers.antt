use Rattle.kpn_book.proofs.Common.{◌≡◌, length, ap, sym, ◌∙◌, arith, range_with_len, is_in_region, put_back_if, all_put_back}
use Rattle.kpn_book.proofs.Queueing.{range_next}
use Rattle.kpn_book.proofs.Regions.{length_put_back, all_put_back-push}
use Rattle.kpn_book.proofs.open_book.regions.put_back_region.Goals as goal

pub is_within-within-requires : goal.is_within-within-requires
is_within-within-requires g c = omega (arith, c.processes-test.true, c.len-p-end.ensures, c.requires)

pub put_back_if-requires : goal.put_back_if-requires
put_back_if-requires g c =
    let same =
    ap (λ s. length s.states) c.processes.invariant
    ∙ length_put_back (is_in_region c.args.batch.now.now) (range_with_len 0 c.processes.p) c.args.schedule.now in
    omega (arith, c.processes-test.true, c.len-p-end.ensures, same)

pub processes-preserved : goal.processes-preserved
processes-preserved g c =
    let within = is_in_region c.args.batch.now.now in
    let k = c.processes.p in
    c.put_back_if.ensures
    ∙ ap (λ w. put_back_if w k c.processes.schedule) c.is_within-within.ensures
    ∙ ap (put_back_if (within k) k) c.processes.invariant
    ∙ sym (all_put_back-push within (range_with_len 0 k) k c.args.schedule.now)
    ∙ ap (λ xs. all_put_back within xs c.args.schedule.now) (sym (range_next k))

pub returns : goal.returns
returns g c =
    let all : c.processes.p ≡ length c.args.schedule.now.states =
    omega (arith, c.processes-test.false, c.len-p-end.ensures) in
    c.processes.invariant
    ∙ ap (λ n. all_put_back (is_in_region c.args.batch.now.now) (range_with_len 0 n) c.args.schedule.now) all
