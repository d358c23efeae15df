use Rattle.kpn_pool_desk.proofs.Common.{◌≡◌, true, sym, ap, subst, channel_at, is_sink, sink_there, Desk, with_book}
use Rattle.kpn_pool_desk.proofs.Keeping.{takes, still_desk, same_desk}
use Rattle.kpn_pool_desk.proofs.outside_seats.SinkSeat.take.Goals as goal

pub has_item-requires : goal.has_item-requires
has_item-requires g c =
    sink_there c.desk.inside.book.tables c.self.inside.channel
    (subst (λ t. is_sink (channel_at t c.self.inside.channel) ≡ true) c.network.ensures (sym c.if-is_sink.ensures))

pub invariant_of-desk : goal.invariant_of-desk
invariant_of-desk g c = same_desk c.desk.invariant c.take.new.self c.in_err-item.ensures.as_before

pub invariant_of-desk-2 : goal.invariant_of-desk-2
invariant_of-desk-2 g c =
    let same =
    takes c.self.inside.channel c.in_ok-item.item c.desk.inside.book c.take.new.self c.in_ok-item.ensures.done.takes in
    still_desk c.desk.invariant c.take.new.self c.known.ensures same

pub returns-clause-desk : goal.returns-clause-desk
returns-clause-desk g c = ap (λ (d : Desk). with_book c.take.new.self d) c.desk.view_is
