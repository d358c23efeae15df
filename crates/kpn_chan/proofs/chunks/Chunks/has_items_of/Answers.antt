use Rattle.std.proofs.Common.{◌≤◌, length, refl, sym, ◌∙◌, arith, rules}
use Rattle.kpn_chan.proofs.Common.{take_all, items_of}
use Rattle.kpn_chan.proofs.Places.{begins_by_places}
use Rattle.kpn_chan.proofs.chunks.Chunks.has_items_of.Goals as goal

pub returns : goal.returns
returns g c =
    let here = items_of c.args.self.now in
    let there = items_of c.args.other.now in
    let ended : length here ≤ c.items.place = search rules in
    let as_long : length there ≤ length here = search rules in
    let begins =
    begins_by_places here there
    (λ k below. sym (c.items.invariant k (omega (arith, below, ended)))) in
    (λ _. begins ∙ take_all (length here) there as_long, λ _. refl)
