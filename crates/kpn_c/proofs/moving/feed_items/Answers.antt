use Rattle.kpn_c.proofs.Common.{ℤ, subst, rules, w64, SFits, to_z-of_z, Feed, Happens, happens_alone, item_at}
use Rattle.kpn_c.proofs.OneWanted.{feeds_more}
use Rattle.kpn_c.proofs.moving.feed_items.Goals as goal

pub items-preserved : goal.items-preserved
items-preserved c =
    let next = item_at c.args.items.now c.items.count in
    let item : ℤ = next.item in
    let fits : SFits w64 item = search rules in
    record {
      feeds = feeds_more c.args.items.now c.items.count c.args.book.now c.items.book c.feed.new.self c.items-test.true
          c.items.invariant.feeds
          (subst (λ v. Happens (Feed next.channel v) c.items.book c.feed.new.self) (to_z-of_z w64 item fits)
          (happens_alone _ c.items.book c.feed.new.self c.known.ensures c.in-Ok.ensures.done.appends));
    }
