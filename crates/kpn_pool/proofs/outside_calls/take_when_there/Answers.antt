use Rattle.kpn_pool_desk.proofs.Seating.{takes_more}
use Rattle.kpn_pool.proofs.outside_calls.take_when_there.Goals as goal

pub returns-in_err-take_from-clause-taken : goal.returns-in_err-take_from-clause-taken
returns-in_err-take_from-clause-taken g c =
    takes_more c.args.seat.now c.take_from.new.seat c.take_from-2.new.seat c.take_from.ensures.taken
    c.take_from-2.ensures.taken

pub returns-clause-taken : goal.returns-clause-taken
returns-clause-taken g c =
    takes_more c.args.seat.now c.take_from.new.seat c.take_from-2.new.seat c.take_from.ensures.taken
    c.take_from-2.ensures.taken
