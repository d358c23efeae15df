use Rattle.kpn_book.proofs.Common.{sym, ap, ◌∙◌, subst, arith, option_to_list, reads_below, first_held, made_ready, all_made_ready, book_of, held_by, MayBeReady}
use Rattle.kpn_book.specs.declared.open_book.Hold.TheVariants as hold
use Rattle.kpn_book.proofs.Following.{held_is_there}
use Rattle.kpn_book.proofs.FirstOfQueue.{held_so}
use Rattle.kpn_book.proofs.GoingOn.{stays, may_stay}
use Rattle.kpn_book.proofs.open_book.OpenBook.get_ahead.Goals as goal

pub has_item-requires : goal.has_item-requires
has_item-requires g c =
    let o = held_by hold.First c.args.p (book_of c.args.self.now) in
    let held = held_so hold.First c.args.p (book_of c.args.self.now) c.requires.may.held in
    let there = held_is_there o c.requires.may.sound.in_step c.args.p held in
    let below = reads_below o.tables c.known.ensures o.machine c.args.p there c.args.c c.requires.reads in
    let long = c.requires.may.sound.in_step.run.shape.channels in
    omega (arith, below, long)

pub wake-requires : goal.wake-requires
wake-requires g c =
    let s = c.args.self.now.schedule in
    let woken = option_to_list c.get_item-got.result.woken in
    subst (λ z. MayBeReady z woken) (sym c.get_item-got.ensures.schedule)
    (may_stay s (made_ready c.args.p (first_held c.args.p s)) woken (stays c.args.p s c.requires.may.held)
    c.get_item-got.ensures.may)

pub returns-clause-got : goal.returns-clause-got
returns-clause-got g c _ = (
  c.get_item-got.result.item,
  record {
    woken = c.get_item-got.result.woken;
    may = c.get_item-got.ensures.may;
    schedule =
        c.wake.ensures
        ∙ ap (all_made_ready (option_to_list c.get_item-got.result.woken)) c.get_item-got.ensures.schedule;
    answered = c.get_item-got.ensures.answered;
  },
)
