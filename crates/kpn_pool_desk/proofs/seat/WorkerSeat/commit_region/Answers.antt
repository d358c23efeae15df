use Rattle.kpn_pool_desk.proofs.Common.{◌∙◌, sym, arith, region_much}
use Rattle.kpn_pool_desk.proofs.Keeping.{counted_desk}
use Rattle.kpn_pool_desk.proofs.Dividing.{region_further}
use Rattle.kpn_pool_desk.proofs.seat.WorkerSeat.commit_region.Goals as goal

pub overflow_sub-made : goal.overflow_sub-made
overflow_sub-made g c =
    let further =
    region_further c.args.batch.now c.in_ok-memory.memory c.desk.inside.book c.commit_region.new.self
    c.in_ok-memory.ensures.done in
    let less = further.commits in
    let before = c.commits-before.ensures in
    let after = c.commits.ensures in
    omega (arith, less, before, after)

pub invariant_of-desk-2 : goal.invariant_of-desk-2
invariant_of-desk-2 g c =
    let further =
    region_further c.args.batch.now c.in_ok-memory.memory c.desk.inside.book c.commit_region.new.self
    c.in_ok-memory.ensures.done in
    let less = further.commits in
    let before = c.commits-before.ensures in
    let after = c.commits.ensures in
    let counted = c.desk.invariant.counted in
    let total = c.count.ensures.total in
    counted_desk c.desk.invariant c.commit_region.new.self c.count.new.total.total c.known-2.ensures further.tables
    (region_much c.args.batch.now c.in_ok-memory.memory c.desk.inside.book c.commit_region.new.self
    (c.requires ∙ sym c.desk.invariant.network) c.in_ok-memory.ensures.done)
    (omega (arith, less, before, after, counted, total))
