use Rattle.kpn_book.proofs.Common.{ℤ, pos, [], ◌∷◌, ◌++◌, map, take, get_or, subst, sym, ap, ◌∙◌, rules, w64, SFits, to_z-of_z, map-append, take_more, Feed, AllHappen, IsSupplied}
use Rattle.kpn_book.proofs.Supplying.{IsSupplied-fed}
use Rattle.kpn_book.proofs.Happening.{happens_alone, join, one}
use Rattle.kpn_book.proofs.feeding.feed_items.Goals as goal

pub items-preserved : goal.items-preserved
items-preserved c =
    let item : ℤ = get_or c.args.items.now c.items.item-index (pos 0) in
    let fits : SFits w64 item = search rules in
    let first = take c.items.item-index c.args.items.now in
    let more =
    ap (λ x. first ++ x ∷ []) (to_z-of_z w64 item fits)
    ∙ sym (take_more c.args.items.now c.items.item-index (pos 0) c.items-test.true) in
    record {
      supplied = subst (λ xs. IsSupplied c.args.c xs c.args.book.now c.feed.new.self) more
          (IsSupplied-fed c.args.c first _ _ c.args.book.now c.items.book c.feed.new.self c.known.ensures
          c.items.invariant.supplied c.in-Ok.ensures.done);
      feeds = subst (λ xs. AllHappen (map (Feed c.args.c) xs) c.args.book.now c.feed.new.self) more
          (subst (λ es. AllHappen es c.args.book.now c.feed.new.self)
          (sym (map-append (Feed c.args.c) first (_ ∷ [])))
          (join (map (Feed c.args.c) first) (Feed c.args.c _ ∷ []) c.args.book.now c.items.book c.feed.new.self
          c.items.invariant.feeds
          (one (Feed c.args.c _) c.items.book c.feed.new.self
          (happens_alone (Feed c.args.c _) c.items.book c.feed.new.self c.known-in-items.ensures
          c.in-Ok.ensures.done.appends))));
    }
