use Rattle.kpn_parts.proofs.Common.{◌++◌, sym, subst, items_of, IsNext}
use Rattle.kpn_parts.proofs.Carrying.{next_exactly}
use Rattle.kpn_parts.proofs.joining.takes.Goals as goal

pub returns : goal.returns
returns c = λ order h.
    let exact =
    next_exactly c.args.link order c.args.placed c.args.carried.now.items.items c.args.carried.now.fed
    c.item_of-put.result c.item_of-feed.result h c.item_of-put.ensures c.item_of-feed.ensures in (
      λ is. exact.0
          (subst (λ xs. IsNext (xs ++ items_of c.item_of-put.result) c.args.carried.now.fed c.item_of-feed.result)
          c.deref.ensures.value (c.is_next.ensures.0 is)),
      λ sent. c.is_next.ensures.1
          (subst (λ xs. IsNext (xs ++ items_of c.item_of-put.result) c.args.carried.now.fed c.item_of-feed.result)
          (sym c.deref.ensures.value) (exact.1 sent)),
    )
