-- The parameters, zeros and the cells; all places are at the start of their lists.
use Rattle.std.proofs.Common.{◌≡◌, append_assoc, arith}
use Rattle.kpn_lang.proofs.Common.{take_all, common_steps, start_of, remaining}
use Rattle.kpn_lang.proofs.Remaining.{remaining-start, Standing-same}
use Rattle.kpn_lang.proofs.plain.State.start.Goals as goal

pub returns : goal.returns
returns c =
    let all : c.push_cells.new.values.items ≡ start_of c.args.program.now c.args.pars.now =
    grind (arith, common_steps, take_all, append_assoc) in
    let front : remaining c.args.lists.now c.in_ok-vec.field-0.items ≡ c.args.lists.now =
    grind (arith, common_steps, remaining-start) in
    Standing-same _ _ _ _ _ _ all front c.new.ensures.items
