-- The canonical form of an item spells it, and a line spells one item.
use Rattle.kpn_trace.proofs.Parting.{no_item, other_form}
use Rattle.kpn_trace.proofs.words.canonical_item.Goals as goal

pub returns-in_err-item : goal.returns-in_err-item
returns-in_err-item c = rw c.from_residual.ensures (no_item c.args.word.now c.in_err-item.ensures)

pub returns-else-is_canonical : goal.returns-else-is_canonical
returns-else-is_canonical c =
    let item = c.in_ok-item.item in
    λ other fits.
    other_form c.args.word.now item other c.in_ok-item.ensures
    (λ e. let is = (c.is_canonical.ensures item c.in_ok-item.ensures).1 e in cc) fits
