use Rattle.kpn_pool_desk.proofs.Common.{◌≡◌, ◌∙◌, ◌<◌, ◌≤◌, length, get_or, rules, EndSeat}
use Rattle.kpn_pool_desk.proofs.Seating.{none_more, none_there}
use Rattle.kpn_pool_desk.proofs.opening.EndSeats.take_sink.Goals as goal

pub seats-preserved : goal.seats-preserved
seats-preserved g c =
    let seats = c.args.self.now.sinks.items in
    let below : c.seats.i < length seats = search rules in
    let seat : EndSeat = c.index.result.now in
    let at : seat ≡ get_or seats c.seats.i seat = search rules in
    record {
      same = c.seats.invariant.same;
      none =
          none_more c.args.channel seats c.seats.i seat below at (λ is. c.if-channel.false (c.channel.ensures ∙ is))
          c.seats.invariant.none;
    }

pub returns-clause-none : goal.returns-clause-none
returns-clause-none g c =
    let seats = c.args.self.now.sinks.items in
    let all : length seats ≤ c.seats.i = search rules in
    none_there c.args.channel seats c.seats.i all c.seats.invariant.none
