-- A read moves the place of its list on.
use Rattle.kpn_lang.proofs.Common.{rules, Some, SFits, w64, sym, ap, ◌∙◌, to_z-of_z}
use Rattle.kpn_lang.proofs.Remaining.{remaining-set, no_next, without_none, next_is}
use Rattle.kpn_lang.proofs.sequence.next_item.Goals as goal

pub returns-in_err-item-clause-item : goal.returns-in_err-item-clause-item
returns-in_err-item-clause-item c =
    c.from_residual.ensures
    ∙ no_next c.args.lists.now c.args.places.now c.args.port c.as_slice.result.now c.requires.places c.requires.port
    (rw c.as_slice.ensures c.index-lists-port.is) c.in_err-item.ensures.lookup.3

pub returns-in_err-item-clause-rest : goal.returns-in_err-item-clause-rest
returns-in_err-item-clause-rest c =
    without_none c.args.lists.now c.args.places.now c.args.port c.as_slice.result.now c.requires.places c.requires.port
    (rw c.as_slice.ensures c.index-lists-port.is) c.in_err-item.ensures.lookup.3

pub returns-clause-item : goal.returns-clause-item
returns-clause-item c =
    let fits : SFits w64 c.in_ok-item.field-0.now = search rules in
    ap Some (to_z-of_z w64 c.in_ok-item.field-0.now fits)
    ∙ next_is c.args.lists.now c.args.places.now c.args.port c.as_slice.result.now c.requires.places c.requires.port
    (rw c.as_slice.ensures c.index-lists-port.is) c.in_ok-item.field-0.now c.in_ok-item.ensures.lookup.3.0
    c.in_ok-item.ensures.lookup.1

pub returns-clause-rest : goal.returns-clause-rest
returns-clause-rest c =
    sym (remaining-set c.args.lists.now c.args.places.now c.args.port c.requires.places)
