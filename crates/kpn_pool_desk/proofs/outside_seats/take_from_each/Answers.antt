use Rattle.kpn_pool_desk.proofs.Common.{◌≡◌, ◌<◌, length, refl, subst, arith, rules, slice_get-get_or, err_from_is_err_and, TakeInTurn}
use Rattle.kpn_pool_desk.proofs.Seating.{none_taken, taken_at, same_count, sink_more, all_sinks, refused_at, still_with_book}
use Rattle.kpn_pool_desk.proofs.Recording.{turn_more, turned_within}
use Rattle.kpn_pool_desk.proofs.outside_seats.take_from_each.Goals as goal

pub seats-init : goal.seats-init
seats-init g c = record {
  taken = none_taken c.args.seats.now;
  turns = (refl, refl);
  sinks = λ k d below. absurd (omega (arith, below));
  desk = refl;
}

pub seats-preserved : goal.seats-preserved
seats-preserved g c =
    let below : c.seats.i < length c.seats.seats = search rules in
    record {
      taken =
          taken_at c.args.seats.now c.seats.seats c.seats.i c.take_all.new.self c.index-seats-i.result below
          c.seats.invariant.taken
          (record {
            channel = c.take_all.ensures.channel;
            items = c.take_all.ensures.taken;
            forgotten = c.take_all.ensures.first.forgotten;
          });
      turns =
          turn_more c.seats.i c.args.seats.now c.seats.seats c.take_all.new.self c.index-seats-i.result
          c.args.desk.now.book c.seats.desk.book c.take_all.new.desk.book below c.seats.invariant.turns
          (record { first = c.in_ok-take_all.ensures.first; none_left = c.in_ok-take_all.ensures.none_left });
      sinks =
          sink_more g.J.Job.network c.args.seats.now c.seats.seats c.seats.i c.index-seats-i.result below
          c.seats.invariant.taken c.seats.invariant.sinks c.in_ok-take_all.ensures.sink;
      desk =
          still_with_book c.args.desk.now c.seats.desk c.take_all.new.desk c.seats.invariant.desk
          c.in_ok-take_all.ensures.desk;
    }

pub returns-in_err-take_all-clause-seats : goal.returns-in_err-take_all-clause-seats
returns-in_err-take_all-clause-seats g c =
    let below : c.seats.i < length c.seats.seats = search rules in
    taken_at c.args.seats.now c.seats.seats c.seats.i c.take_all.new.self c.index-seats-i.result below
    c.seats.invariant.taken
    (record {
      channel = c.take_all.ensures.channel;
      items = c.take_all.ensures.taken;
      forgotten = c.take_all.ensures.first.forgotten;
    })

pub returns-in_err-take_all-clause-may_refuse : goal.returns-in_err-take_all-clause-may_refuse
returns-in_err-take_all-clause-may_refuse g c =
    let below : c.seats.i < length c.seats.seats = search rules in
    let p = err_from_is_err_and c.from_residual.result c.from_residual.ensures.1 in
    rw (p.1, p.2)
    (refused_at g.J.Job.network c.args.seats.now c.seats.seats c.seats.i c.index-seats-i.result
    c.in_err-take_all.field-0.0 below c.seats.invariant.taken c.in_err-take_all.ensures.may_refuse)

pub returns-clause-sinks : goal.returns-clause-sinks
returns-clause-sinks g c =
    all_sinks g.J.Job.network c.args.seats.now c.seats.seats c.seats.i c.seats.invariant.taken (search (rules, arith))
    c.seats.invariant.sinks

pub returns-clause-all : goal.returns-clause-all
returns-clause-all g c =
    let turns = c.seats.invariant.turns in
    let most = turned_within c.seats.i c.args.seats.now c.seats.seats c.args.desk.now.book c.seats.desk.book turns in
    let same = same_count c.args.seats.now c.seats.seats c.seats.invariant.taken in
    let whole : c.seats.i ≡ length c.args.seats.now = search (rules, arith) in
    subst (λ n. TakeInTurn n c.args.seats.now c.seats.seats c.args.desk.now.book c.seats.desk.book) whole turns

pub returns-in_err-take_all-clause-refused : goal.returns-in_err-take_all-clause-refused
returns-in_err-take_all-clause-refused g c =
    let below : c.seats.i < length c.seats.seats = search rules in
    let p = err_from_is_err_and c.from_residual.result c.from_residual.ensures.1 in
    rw (p.1, p.2)
    (record {
      count = c.seats.i;
      seats = c.seats.seats;
      between = c.seats.desk.book;
      turns = c.seats.invariant.turns;
      seat = _;
      there = slice_get-get_or c.seats.seats c.seats.i c.index-seats-i.result below;
      taken = c.take_all.new.self;
      first = c.in_err-take_all.ensures.first;
      refused = c.in_err-take_all.ensures.refused;
      after_is = refl;
    })
