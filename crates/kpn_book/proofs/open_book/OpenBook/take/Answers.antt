use Rattle.kpn_book.proofs.Common.{refl, sym, ap, subst, ◌∙◌, w64, SFits, to_z, of_z, rules, to_z-of_z, option_to_list, Legal-due, book_of, Follows}
use Rattle.kpn_net.proofs.Networks.{sink_there}
use Rattle.kpn_history.specs.declared.event.Event.TheVariants as event
use Rattle.kpn_book.proofs.Following.{own_none, may_be_woken, followed, recorded, channel_fits}
use Rattle.kpn_book.proofs.open_book.OpenBook.take.Goals as goal

pub number-requires : goal.number-requires
number-requires g c =
    let b = book_of c.args.self.now in
    channel_fits b.tables c.known.ensures c.args.c (sink_there b.tables c.args.c c.requires.sink)

pub wake-requires : goal.wake-requires
wake-requires g c =
    let b = book_of c.args.self.now in
    may_be_woken b c.known.ensures c.requires.sound.in_step (event.Take c.args.c c.take-got.result.item)
    (own_none b) tt b.schedule (option_to_list c.take-got.result.woken) refl
    (ap option_to_list c.take-got.ensures.woken)

pub returns-clause-follows : goal.returns-clause-follows
returns-clause-follows g c =
    let b = book_of c.args.self.now in
    let e = event.Take c.args.c c.take-got.result.item in
    let step = c.requires.sound.in_step in
    let fits : SFits w64 c.take-got.result.item = search rules in
    subst
    (λ v. Follows (event.Take c.args.c v) b
    (recorded b c.push.new.self c.take-got.new.self c.wake.new.schedule))
    (sym (to_z-of_z w64 c.take-got.result.item fits))
    (followed b c.known.ensures step e (own_none b) tt c.take-got.new.self c.take-got.ensures.changes
    c.take-got.ensures.shape
    (Legal-due b.tables c.known.ensures b.history b.machine step.run c.requires.sound.nothing_owed e
    (sink_there b.tables c.args.c c.requires.sink) (c.requires.sink, c.take-got.ensures.item))
    (event.Take c.number.result (to_z w64 (of_z w64 c.take-got.result.item))) c.push.new.self b.schedule
    c.wake.new.schedule (option_to_list c.take-got.result.woken)
    (ap (λ x. event.Take x (to_z w64 (of_z w64 c.take-got.result.item))) c.number.ensures
    ∙ ap (λ x. event.Take c.args.c x) (to_z-of_z w64 c.take-got.result.item fits))
    c.push.ensures.events c.push.ensures.kept refl c.wake.ensures (ap option_to_list c.take-got.ensures.woken))

pub take-got-requires-clause-channel : goal.take-got-requires-clause-channel
take-got-requires-clause-channel g c = sink_there (book_of c.args.self.now).tables c.args.c c.requires.sink
