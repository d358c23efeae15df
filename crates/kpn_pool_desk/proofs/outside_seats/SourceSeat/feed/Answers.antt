use Rattle.kpn_pool_desk.proofs.Common.{ap, Desk, with_book}
use Rattle.kpn_pool_desk.proofs.Keeping.{appends, still_desk, same_desk}
use Rattle.kpn_pool_desk.proofs.outside_seats.SourceSeat.feed.Goals as goal

pub invariant_of-desk : goal.invariant_of-desk
invariant_of-desk g c = same_desk c.desk.invariant c.feed.new.self c.in_err-feed.ensures.as_before

pub invariant_of-desk-2 : goal.invariant_of-desk-2
invariant_of-desk-2 g c =
    let same = appends _ c.desk.inside.book c.feed.new.self c.in_ok-feed.ensures.done.appends in
    still_desk c.desk.invariant c.feed.new.self c.known.ensures same

pub returns-clause-desk : goal.returns-clause-desk
returns-clause-desk g c = ap (λ (d : Desk). with_book c.feed.new.self d) c.desk.view_is
