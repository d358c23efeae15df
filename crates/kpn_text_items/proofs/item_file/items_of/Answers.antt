-- Each line read spells the item that is pushed for it, and a line that spells none is the first such.
use Rattle.kpn_text_items.proofs.Common.{◌≡◌, ◌∷◌, ◌++◌, [], sym, subst, arith, to_z-of_z, common_steps}
use Rattle.kpn_text_items.proofs.FileLemmas.{HasTaken, HasTaken-more, IsFirstBad-from_taken}
use Rattle.kpn_text_items.proofs.item_file.items_of.Goals as goal

pub returns-in_default-clause-bad_item : goal.returns-in_default-clause-bad_item
returns-in_default-clause-bad_item c =
    IsFirstBad-from_taken c.args.bytes.now c.loop-rest.rest.now c.first_line.result.0.now c.first_line.result.1.now
    c.loop-rest.items.items c.len.result
    c.loop-rest.invariant c.first_line.ensures.split c.in_default.ensures (omega arith)

pub loop-rest-preserved : goal.loop-rest-preserved
loop-rest-preserved c =
    let fits = c.in-Some.ensures.in_range in
    let pushed : c.push.new.self.items ≡ c.loop-rest.items.items ++ c.in-Some.item
    ∷ [] = grind (arith, common_steps, to_z-of_z) in
    subst (HasTaken c.args.bytes.now c.first_line.result.1.now) (sym pushed)
    (HasTaken-more c.args.bytes.now c.loop-rest.rest.now c.first_line.result.0.now c.first_line.result.1.now
    c.loop-rest.items.items c.in-Some.item
    c.loop-rest.invariant c.first_line.ensures.split c.in-Some.ensures)
