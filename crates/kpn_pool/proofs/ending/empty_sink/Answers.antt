use Rattle.std.proofs.Common.{sym, ◌∙◌}
use Rattle.kpn_pool_desk.proofs.Recording.{less_left}
use Rattle.kpn_pool.proofs.Emptying.{keeps_on}
use Rattle.kpn_pool.proofs.ending.empty_sink.Goals as goal

pub items-preserved : goal.items-preserved
items-preserved c = record {
  book = c.known-in-items.ensures;
  kept =
      keeps_on c.args.sink c.in_ok-take.field-0 c.args.book.now c.items.book c.take.new.self c.items.invariant.book
      c.items.invariant.kept c.in_ok-take.ensures.done;
}

pub items-smaller : goal.items-smaller
items-smaller c =
    less_left c.in_ok-take.field-0 c.args.sink c.items.book c.take.new.self c.in_ok-take.ensures.done
    (sym c.is_some.ensures ∙ c.if-is_some.true)

pub returns : goal.returns
returns c =
    keeps_on c.args.sink c.in_ok-take.field-0 c.args.book.now c.items.book c.take.new.self c.items.invariant.book
    c.items.invariant.kept c.in_ok-take.ensures.done
