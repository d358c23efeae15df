use Rattle.kpn_book.proofs.Common.{refl, ap, option_to_list, Legal-due, book_of}
use Rattle.kpn_net.proofs.Networks.{sink_there}
use Rattle.kpn_history.specs.declared.event.Event.TheVariants as event
use Rattle.kpn_book.proofs.Following.{own_none, may_be_woken, followed, channel_fits}
use Rattle.kpn_book.proofs.open_book.OpenBook.leave.Goals as goal

pub number-requires : goal.number-requires
number-requires g c =
    let b = book_of c.args.self.now in
    channel_fits b.tables c.known.ensures c.args.c (sink_there b.tables c.args.c c.requires.sink)

pub wake-requires : goal.wake-requires
wake-requires g c =
    let b = book_of c.args.self.now in
    may_be_woken b c.known.ensures c.requires.sound.in_step (event.Leave c.args.c) (own_none b) tt b.schedule
    (option_to_list c.leave-woken.result) refl (ap option_to_list c.leave-woken.ensures.woken)

pub returns-clause-follows : goal.returns-clause-follows
returns-clause-follows g c =
    let b = book_of c.args.self.now in
    let e = event.Leave c.args.c in
    let step = c.requires.sound.in_step in
    followed b c.known.ensures step e (own_none b) tt c.leave-woken.new.self c.leave-woken.ensures.changes
    c.leave-woken.ensures.shape
    (Legal-due b.tables c.known.ensures b.history b.machine step.run c.requires.sound.nothing_owed e
    (sink_there b.tables c.args.c c.requires.sink) (c.requires.sink, c.requires.not_left))
    (event.Leave c.number.result) c.push.new.self b.schedule c.wake.new.schedule
    (option_to_list c.leave-woken.result) (ap (λ x. event.Leave x) c.number.ensures) c.push.ensures.events c.push.ensures.kept refl
    c.wake.ensures (ap option_to_list c.leave-woken.ensures.woken)

pub leave-woken-requires-clause-channel : goal.leave-woken-requires-clause-channel
leave-woken-requires-clause-channel g c = sink_there (book_of c.args.self.now).tables c.args.c c.requires.sink
