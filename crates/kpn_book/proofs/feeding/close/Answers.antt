use Rattle.kpn_book.proofs.Supplying.{IsSupplied-closed, closed_then, closes_open}
use Rattle.kpn_book.proofs.feeding.close.Goals as goal

pub returns-in-Ok-clause-supplied : goal.returns-in-Ok-clause-supplied
returns-in-Ok-clause-supplied c before items so_far =
    IsSupplied-closed c.args.c items before c.args.book.now c.close_source.new.self c.known.ensures so_far
    c.in-Ok.ensures.done

pub returns-in-Ok-clause-closed : goal.returns-in-Ok-clause-closed
returns-in-Ok-clause-closed c =
    closed_then c.args.c c.args.book.now c.close_source.new.self c.known.ensures c.in-Ok.ensures.done

pub returns-in-Ok-clause-closes : goal.returns-in-Ok-clause-closes
returns-in-Ok-clause-closes c =
    closes_open c.args.c c.args.book.now c.close_source.new.self c.known.ensures c.in-Ok.ensures.done
