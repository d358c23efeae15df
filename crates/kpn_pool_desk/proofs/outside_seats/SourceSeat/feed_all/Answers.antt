use Rattle.kpn_pool_desk.proofs.Common.{◌≡◌, true, ℤ, pos, get_or, ap, ◌∙◌, subst, rules, w64, SFits, arith, err_from_is_err_and, channel_at, is_source, AppendsAll, RefusesFeed, EndSeat, AreRecorded, MayRefuseFeed}
use Rattle.std.proofs.lemmas.Int.{to_z-of_z}
use Rattle.kpn_history.specs.declared.event.Event.TheVariants as event
use Rattle.kpn_pool_desk.proofs.Recording.{as_before, fed_then, fed_until}
use Rattle.kpn_pool_desk.proofs.Seating.{fed_more, still_with_book}
use Rattle.kpn_pool_desk.proofs.outside_seats.SourceSeat.feed_all.Goals as goal

pub items-preserved : goal.items-preserved
items-preserved g c =
    let so_far = c.items.invariant in
    let item : ℤ = get_or c.args.items.now c.items.item-index (pos 0) in
    let fits : SFits w64 item = search rules in
    let seat =
    fed_more c.args.self.now c.items.self c.feed.new.self c.args.items.now c.items.item-index _ so_far.channel
    so_far.fed c.items-test.true (to_z-of_z w64 item fits) c.in_ok-feed.ensures.fed in
    record {
      channel = seat.0;
      fed = seat.1;
      kept = ap (λ (s : EndSeat). s.forgotten) c.in_ok-feed.ensures.fed ∙ so_far.kept;
      recorded =
          fed_then c.args.self.now c.items.self c.feed.new.self c.args.desk.now.book c.items.desk.book
          c.feed.new.desk.book _ so_far.channel c.in_ok-feed.ensures.fed so_far.recorded
          c.in_ok-feed.ensures.done.appends;
      source =
          λ some.
          subst (λ n. is_source (channel_at g.J.Job.network n) ≡ true) so_far.channel
          c.in_ok-feed.ensures.source;
      desk = still_with_book c.args.desk.now c.items.desk c.feed.new.desk so_far.desk c.in_ok-feed.ensures.desk;
    }

pub returns-clause-source : goal.returns-clause-source
returns-clause-source g c some = c.items.invariant.source (omega (arith, c.items-test.false))

pub returns-in_err-feed-clause-recorded : goal.returns-in_err-feed-clause-recorded
returns-in_err-feed-clause-recorded g c =
    let kept = c.in_err-feed.ensures.as_before in
    as_before (λ s b. AreRecorded AppendsAll event.Feed c.args.self.now s c.args.desk.now.book b) c.items.self
    c.feed.new.self
    c.items.desk c.feed.new.desk kept.0 kept.1 c.items.invariant.recorded

pub returns-in_err-feed-clause-refused : goal.returns-in_err-feed-clause-refused
returns-in_err-feed-clause-refused g c =
    let so_far = c.items.invariant in
    let kept = c.in_err-feed.ensures.as_before in
    let item : ℤ = get_or c.args.items.now c.items.item-index (pos 0) in
    let fits : SFits w64 item = search rules in
    let p = err_from_is_err_and c.from_residual.result c.from_residual.ensures.1 in
    rw (p.1, p.2)
    (fed_until c.args.items.now c.args.self.now c.items.self c.feed.new.self c.items.item-index _
    (λ n item b. RefusesFeed n item c.args.bound b c.in_err-feed.field-0.0) c.items.desk c.feed.new.desk
    c.items-test.true (to_z-of_z w64 item fits) so_far.channel so_far.fed kept.0 kept.1 c.in_err-feed.ensures.refused)

pub returns-in_err-feed-clause-may_refuse : goal.returns-in_err-feed-clause-may_refuse
returns-in_err-feed-clause-may_refuse g c =
    let so_far = c.items.invariant in
    let kept = c.in_err-feed.ensures.as_before in
    let item : ℤ = get_or c.args.items.now c.items.item-index (pos 0) in
    let fits : SFits w64 item = search rules in
    let p = err_from_is_err_and c.from_residual.result c.from_residual.ensures.1 in
    rw (p.1, p.2)
    (fed_until c.args.items.now c.args.self.now c.items.self c.feed.new.self c.items.item-index _
    (λ n item b. MayRefuseFeed (is_source (channel_at g.J.Job.network n)) item c.in_err-feed.field-0.0) c.items.desk
    c.feed.new.desk c.items-test.true (to_z-of_z w64 item fits) so_far.channel so_far.fed kept.0 kept.1
    c.in_err-feed.ensures.may_refuse)
