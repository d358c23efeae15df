use Rattle.kpn_c.proofs.Common.{ℤ, pos, get_or, subst, rules, w64, SFits, to_z-of_z, Feed, Happens, IsOpenSource, happens_alone}
use Rattle.kpn_c.proofs.OneMore.{feeds_more, since_first}
use Rattle.kpn_c.proofs.feeding.feed_each.Goals as goal

pub items-preserved : goal.items-preserved
items-preserved c =
    let item : ℤ = get_or c.args.items.now c.items.count (pos 0) in
    let fits : SFits w64 item = search rules in
    record {
      feeds = feeds_more c.args.source c.args.items.now c.items.count c.args.book.now c.items.book c.feed.new.self
          c.items-test.true c.items.invariant.feeds
          (subst (λ v. Happens (Feed c.args.source v) c.items.book c.feed.new.self) (to_z-of_z w64 item fits)
          (happens_alone _ c.items.book c.feed.new.self c.known.ensures c.in-Ok.ensures.done.appends));
      source = λ some.
          since_first (λ b. IsOpenSource b c.args.source) (Feed c.args.source) c.args.items.now c.items.count
          c.args.book.now c.items.book c.items.invariant.feeds c.items.invariant.source c.in-Ok.ensures.done.source;
    }
