use Rattle.kpn_parts.proofs.Common.{◌≡◌, ◌<◌, length, get_or, rules, sym, subst, IsJoinOf, UsesAll, ComesInNone, history_at}
use Rattle.kpn_parts.proofs.Merging.{so_far_start, joined_all, comes_in_none}
use Rattle.kpn_parts.proofs.joining.join.Goals as goal

pub go_rounds-requires : goal.go_rounds-requires
go_rounds-requires c =
    so_far_start c.args.histories.now c.args.links.now _ _ _ c.in_ok-at.ensures c.new-order.ensures.items
    c.in_ok-carried.ensures

pub returns-in-None : goal.returns-in-None
returns-in-None c =
    subst (IsJoinOf c.args.histories.now c.args.links.now) (sym c.from_vec.ensures)
    (joined_all c.args.histories.now c.args.links.now c.go_rounds.new.at.items c.go_rounds.new.order.items
    c.go_rounds.new.carried.items c.in_ok-go_rounds.ensures.so_far
    (subst (UsesAll c.args.histories.now) c.deref.ensures.value c.in-None.ensures.all))

pub returns : goal.returns
returns c =
    let histories = c.args.histories.now in
    let at = c.go_rounds.new.at.items in
    let part = c.in-Some.part in
    let left : get_or at part 0 < length (history_at histories part) =
    subst (λ xs. get_or xs part 0 < length (history_at histories part)) c.deref.ensures.value c.in-Some.ensures.lacks in
    let event : get_or at part 0 ≡ c.unwrap_or.result = search rules in
    subst (ComesInNone histories c.args.links.now part) event
    (comes_in_none histories c.args.links.now at c.go_rounds.new.order.items c.go_rounds.new.carried.items
    c.in_ok-go_rounds.ensures.so_far c.in_ok-go_rounds.ensures.stuck part left)
