use Rattle.kpn_book.proofs.Common.{refl, ap, ◌∙◌, arith, w64, SFits, to_z, of_z, rules, to_z-of_z, option_to_list, reads_below, Legal-due, made_ready, all_made_ready, book_of, held_by}
use Rattle.kpn_history.specs.declared.event.Event.TheVariants as event
use Rattle.kpn_book.proofs.Following.{own_held, held_is_there, held_is_free, may_be_woken, followed, recorded, process_fits, channel_fits}
use Rattle.kpn_book.proofs.Answering.{answered_got}
use Rattle.kpn_book.proofs.FirstOfQueue.{held_so}
use Rattle.kpn_book.proofs.open_book.OpenBook.get_item.Goals as goal

pub get-got-requires-clause-process : goal.get-got-requires-clause-process
get-got-requires-clause-process g c =
    let o = held_by c.args.hold c.args.p (book_of c.args.self.now) in
    let held = held_so c.args.hold c.args.p (book_of c.args.self.now) c.requires.may.held in
    held_is_there o c.requires.may.sound.in_step c.args.p held

pub get-got-requires-clause-free : goal.get-got-requires-clause-free
get-got-requires-clause-free g c =
    let o = held_by c.args.hold c.args.p (book_of c.args.self.now) in
    let held = held_so c.args.hold c.args.p (book_of c.args.self.now) c.requires.may.held in
    held_is_free o c.requires.may.sound.in_step c.args.p held

pub number-requires : goal.number-requires
number-requires g c =
    let o = held_by c.args.hold c.args.p (book_of c.args.self.now) in
    let held = held_so c.args.hold c.args.p (book_of c.args.self.now) c.requires.may.held in
    process_fits o.tables c.known.ensures c.args.p (held_is_there o c.requires.may.sound.in_step c.args.p held)

pub number-requires-2 : goal.number-requires-2
number-requires-2 g c =
    let o = held_by c.args.hold c.args.p (book_of c.args.self.now) in
    let held = held_so c.args.hold c.args.p (book_of c.args.self.now) c.requires.may.held in
    let there = held_is_there o c.requires.may.sound.in_step c.args.p held in
    channel_fits o.tables c.known.ensures c.args.c
    (reads_below o.tables c.known.ensures o.machine c.args.p there c.args.c c.requires.reads)

pub returns : goal.returns
returns g c =
    let o = held_by c.args.hold c.args.p (book_of c.args.self.now) in
    let held = held_so c.args.hold c.args.p (book_of c.args.self.now) c.requires.may.held in
    let e = event.Get c.args.p c.args.c c.get-got.result.item in
    let step = c.requires.may.sound.in_step in
    let there = held_is_there o step c.args.p held in
    let below = reads_below o.tables c.known.ensures o.machine c.args.p there c.args.c c.requires.reads in
    let fits : SFits w64 c.get-got.result.item = search rules in
    let item = to_z w64 (of_z w64 c.get-got.result.item) in
    let woken = option_to_list c.get-got.result.woken in
    let ready = made_ready c.args.p o.schedule in
    let order = all_made_ready woken ready in
    let pushed = c.push.ensures.room in
    record {
      schedule = refl;
      may =
          may_be_woken o c.known.ensures step e (own_held o c.args.p held) tt ready woken refl
          (ap option_to_list c.get-got.ensures.woken);
      answered =
          answered_got o (recorded o c.push.new.self c.get-got.new.self order) c.known.ensures c.args.p c.args.c
          c.get-got.result.item c.get-got.ensures.item
          (followed o c.known.ensures step e (own_held o c.args.p held) tt c.get-got.new.self
          c.get-got.ensures.changes c.get-got.ensures.shape
          (Legal-due o.tables c.known.ensures o.history o.machine step.run c.requires.may.sound.nothing_owed e
          (there, below) (held_is_free o step c.args.p held, c.requires.reads, c.get-got.ensures.item))
          (event.Get c.number.result c.number-2.result item) c.push.new.self ready order woken
          (ap (λ x. event.Get x c.number-2.result item) c.number.ensures
          ∙ ap (λ x. event.Get c.args.p x item) c.number-2.ensures
          ∙ ap (λ x. event.Get c.args.p c.args.c x) (to_z-of_z w64 c.get-got.result.item fits))
          c.push.ensures.events c.push.ensures.kept refl refl (ap option_to_list c.get-got.ensures.woken));
      room = omega (arith, pushed);
    }
