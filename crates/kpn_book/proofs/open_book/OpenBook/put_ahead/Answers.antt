use Rattle.kpn_book.proofs.Common.{sym, ap, ◌∙◌, subst, arith, w64, SFits, rules, to_z-of_z, option_to_list, writes_below, first_held, made_ready, all_made_ready, IsWriteTo, book_of, held_by, first_claimed, with_ready, Answered, MayBeReady}
use Rattle.kpn_book.specs.declared.answers.Done.TheVariants as done
use Rattle.kpn_book.specs.declared.open_book.Hold.TheVariants as hold
use Rattle.kpn_book.proofs.Following.{held_is_there}
use Rattle.kpn_book.proofs.FirstOfQueue.{held_so}
use Rattle.kpn_book.proofs.GoingOn.{stays, may_stay}
use Rattle.kpn_book.proofs.open_book.OpenBook.put_ahead.Goals as goal

pub channel-requires : goal.channel-requires
channel-requires g c =
    let o = held_by hold.First c.args.p (book_of c.args.self.now) in
    let held = held_so hold.First c.args.p (book_of c.args.self.now) c.requires.may.held in
    let there = held_is_there o c.requires.may.sound.in_step c.args.p held in
    let below =
    writes_below o.tables c.known.ensures o.machine c.args.p there c.args.c c.args.item c.requires.writes in
    let long = c.requires.may.sound.in_step.run.shape.channels in
    omega (arith, below, long)

pub wake-requires : goal.wake-requires
wake-requires g c =
    let s = c.args.self.now.schedule in
    let woken = option_to_list c.put_item-woken.result in
    subst (λ z. MayBeReady z woken) (sym c.put_item-woken.ensures.schedule)
    (may_stay s (made_ready c.args.p (first_held c.args.p s)) woken (stays c.args.p s c.requires.may.held)
    c.put_item-woken.ensures.may)

pub returns-clause-put : goal.returns-clause-put
returns-clause-put g c _ =
    let b = book_of c.args.self.now in
    let put = book_of c.put_item-woken.new.self in
    let woken = option_to_list c.put_item-woken.result in
    let again = made_ready c.args.p (first_held c.args.p b.schedule) in
    let fits : SFits w64 c.args.item = search rules in
    record {
      woken = c.put_item-woken.result;
      may = c.put_item-woken.ensures.may;
      schedule = c.wake.ensures ∙ ap (all_made_ready woken) c.put_item-woken.ensures.schedule;
      answered =
          subst (λ v. Answered c.args.p (λ s. IsWriteTo b.tables c.args.p s c.args.c v) done.Put
          (first_claimed c.args.p b) (with_ready woken again put)) (to_z-of_z w64 c.args.item fits)
          c.put_item-woken.ensures.answered;
    }
