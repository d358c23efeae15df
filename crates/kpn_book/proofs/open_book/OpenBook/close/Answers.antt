use Rattle.kpn_book.proofs.Common.{refl, ap, [], Legal-due, book_of}
use Rattle.kpn_history.specs.declared.event.Event.TheVariants as event
use Rattle.kpn_book.proofs.Following.{own_none, followed, channel_fits}
use Rattle.kpn_book.proofs.Committing.{source_there}
use Rattle.kpn_book.proofs.open_book.OpenBook.close.Goals as goal

pub number-requires : goal.number-requires
number-requires g c =
    let b = book_of c.args.self.now in
    channel_fits b.tables c.known.ensures c.args.c (source_there b.tables c.args.c c.requires.source)

pub returns-clause-follows : goal.returns-clause-follows
returns-clause-follows g c =
    let b = book_of c.args.self.now in
    let e = event.Close c.args.c in
    let step = c.requires.sound.in_step in
    followed b c.known.ensures step e (own_none b) tt c.close.new.self c.close.ensures.changes c.close.ensures.shape
    (Legal-due b.tables c.known.ensures b.history b.machine step.run c.requires.sound.nothing_owed e
    (source_there b.tables c.args.c c.requires.source) (c.requires.source, c.requires.not_closed))
    (event.Close c.number.result) c.push.new.self b.schedule b.schedule []
    (ap (λ x. event.Close x) c.number.ensures) c.push.ensures.events c.push.ensures.kept refl refl refl

pub close-requires-clause-channel : goal.close-requires-clause-channel
close-requires-clause-channel g c = source_there (book_of c.args.self.now).tables c.args.c c.requires.source
