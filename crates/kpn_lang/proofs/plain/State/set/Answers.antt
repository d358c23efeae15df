-- The number of the cell is small.
use Rattle.kpn_lang.proofs.Common.{◌+◌, ◌<◌, ◌^◌, arith, term_of}
use Rattle.kpn_lang.proofs.Programs.{limits, set_rules}
use Rattle.kpn_lang.proofs.plain.State.set.Goals as goal

pub overflow_add-base : goal.overflow_add-base
overflow_add-base c =
    let most = limits c.args.program.now c.known.ensures in
    let rules = set_rules c.args.program.now c.args.base c.args.size (term_of c.args.index.now)
    (term_of c.args.item.now) c.requires.there in
    let small : c.args.base + c.in_ok-place.place < 2 ^ 64 =
    omega (arith, most.variables, most.cells, rules.1, c.in_ok-place.ensures.ok.1) in
    grind (arith, small)
