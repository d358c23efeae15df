use Rattle.kpn_book.proofs.Common.{sym, book_of}
use Rattle.kpn_book.proofs.Committing.{source_there}
use Rattle.kpn_book.proofs.Outside.{in_channels, in_closed}
use Rattle.kpn_book.proofs.book.Book.feed_fault.Goals as goal

pub is_closed-requires : goal.is_closed-requires
is_closed-requires g c =
    let b = book_of c.self.inside.parts in
    in_closed b c.self.invariant c.args.source
    (source_there b.tables c.args.source (sym c.if-not-is_source.ensures))

pub channel-requires : goal.channel-requires
channel-requires g c =
    let b = book_of c.self.inside.parts in
    in_channels b c.self.invariant c.args.source
    (source_there b.tables c.args.source (sym c.if-not-is_source.ensures))
