-- An item takes the tables a step on, or is the first that is wrong.
use Rattle.kpn_text_names.proofs.Common.{map, sym, ◌∙◌, arith, err_from_is_err_and, item_seen, all_channels, with_wired_item, wiring_seen}
use Rattle.kpn_text_names.proofs.Steps.{goes, fails, ends}
use Rattle.kpn_text_names.proofs.network.Wiring.read.Goals as goal

pub returns-in_err-add : goal.returns-in_err-add
returns-in_err-add c =
    let p = err_from_is_err_and c.from_residual-in_err-add.result c.from_residual-in_err-add.ensures.1 in
    rw (p.1, p.2, ← c.loop-item.invariant)
    (fails (with_wired_item c.args.programs.now (all_channels (map item_seen c.args.items.now))) item_seen
    (wiring_seen c.loop-item.read)
    c.args.items.now c.loop-item.item-index c.item-item.result c.item-item.result c.in_err-add.field-0.0
    (omega arith) (sym c.item-item.is) (rw c.in_ok-channels.ensures.table at c.in_err-add.ensures))

pub loop-item-preserved : goal.loop-item-preserved
loop-item-preserved c =
    sym
    (goes (with_wired_item c.args.programs.now (all_channels (map item_seen c.args.items.now))) item_seen
    (wiring_seen c.loop-item.read)
    c.args.items.now c.loop-item.item-index c.item-item.result c.item-item.result (wiring_seen c.add.new.self)
    (omega arith) (sym c.item-item.is) (rw c.in_ok-channels.ensures.table at c.in_ok-add.ensures))
    ∙ c.loop-item.invariant

pub returns : goal.returns
returns c =
    sym c.loop-item.invariant
    ∙ ends (with_wired_item c.args.programs.now (all_channels (map item_seen c.args.items.now))) item_seen
    (wiring_seen c.loop-item.read)
    c.args.items.now c.loop-item.item-index (omega arith)
