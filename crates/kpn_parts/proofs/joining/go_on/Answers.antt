use Rattle.kpn_parts.proofs.Common.{◌≡◌, ◌<◌, true, false, length, refl, sym, subst, rules, AreCarried}
use Rattle.kpn_parts.proofs.Carrying.{are_fed_at_most}
use Rattle.kpn_parts.proofs.Merging.{goes_on_start, goes_on_next, still_there}
use Rattle.kpn_parts.proofs.joining.go_on.Goals as goal

pub loop-k-init : goal.loop-k-init
loop-k-init c =
    goes_on_start c.args.history.now c.args.r c.args.links.now c.args.order.now.items c.args.carried.now.items
    c.args.from c.requires.part c.requires.links

pub returns-then-not-may_come-clause-still : goal.returns-then-not-may_come-clause-still
returns-then-not-may_come-clause-still c =
    let no : c.may_come.result ≡ false = search rules in
    still_there c.args.links.now c.loop-k.order.items c.args.r c.args.history.now c.loop-k.k _ c.may_come.result
    (c.may_come.ensures c.loop-k.order.items
    (subst (AreCarried c.args.links.now c.loop-k.order.items) (sym c.deref.ensures.value)
    c.loop-k.invariant.on_links))
    no

pub carry-requires-clause-fed : goal.carry-requires-clause-fed
carry-requires-clause-fed c =
    are_fed_at_most c.args.links.now c.loop-k.order.items c.loop-k.carried.items c.loop-k.invariant.on_links

pub loop-k-preserved : goal.loop-k-preserved
loop-k-preserved c =
    let below : c.loop-k.k < length c.args.history.now = search rules in
    let is : c.may_come.result ≡ true = search rules in
    goes_on_next c.args.history.now c.args.r c.args.links.now c.args.order.now.items c.loop-k.order.items
    c.push.new.self.items c.loop-k.carried.items c.carry.new.carried.items c.loop-k.k _ _ c.loop-k.invariant below
    refl refl
    ((c.may_come.ensures c.loop-k.order.items
    (subst (AreCarried c.args.links.now c.loop-k.order.items) (sym c.deref.ensures.value)
    c.loop-k.invariant.on_links)).0 is)
    c.in_ok-carry.ensures c.in_ok-push.ensures.items
