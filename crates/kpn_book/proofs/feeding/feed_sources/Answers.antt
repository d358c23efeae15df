use Rattle.kpn_net.specs.Iteration.{given_by}
use Rattle.kpn_book.proofs.Turning.{supplies_next}
use Rattle.kpn_book.proofs.feeding.feed_sources.Goals as goal

pub channels-preserved : goal.channels-preserved
channels-preserved c =
    let more = c.in_ok-source.ensures in
    record {
      source = more.source;
      supplies = supplies_next c.args.network.now (given_by c.args.network.now c.args.lists.now) c.channels.c
          c.args.book.now c.channels.book c.supply_next.new.book c.channels.invariant.supplies more.supplies;
      so_far = more.more;
    }
