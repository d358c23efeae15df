use Rattle.std.proofs.Common.{rules}
use Rattle.kpn_c.proofs.moving.move_items.Goals as goal

pub returns-then-is_some : goal.returns-then-is_some
returns-then-is_some c =
    record {
      fed = c.feed_items-fed.new.book;
      stepped = c.feed_items-fed.new.book;
      feeds = c.feed_items-fed.ensures;
      steps = search rules;
      takes = search rules;
    }

pub returns-then-stepped : goal.returns-then-stepped
returns-then-stepped c =
    record {
      fed = c.feed_items-fed.new.book;
      stepped = c.step_each-stepped.new.book;
      feeds = c.feed_items-fed.ensures;
      steps = search rules;
      takes = search rules;
    }
