use Rattle.kpn_book.proofs.Common.{◌≡◌, ℕ, refl, ap, ◌∙◌, subst, option_to_list, owed_below, Legal-grown, Book, book_of, Follows}
use Rattle.kpn_history.specs.declared.event.Event.TheVariants as event
use Rattle.kpn_book.proofs.Following.{own_none, may_be_woken, followed, process_fits, channel_fits}
use Rattle.kpn_book.proofs.open_book.OpenBook.grow.Goals as goal

told : (b a : Book) (p d n m : ℕ) → n ≡ m → Follows (event.Grow p d n) b a → Follows (event.Grow p d m) b a
told b a p d n m same follows = subst (λ x. Follows (event.Grow p d x) b a) same follows

pub number-requires : goal.number-requires
number-requires g c = process_fits c.args.self.now.network.now c.known.ensures c.args.p c.requires.process

pub number-requires-2 : goal.number-requires-2
number-requires-2 g c =
    let b = book_of c.args.self.now in
    channel_fits b.tables c.known.ensures c.args.d
    (owed_below b.tables c.known.ensures b.machine c.requires.step.run.shape c.args.p c.args.d
    c.requires.awaited)

pub wake-requires : goal.wake-requires
wake-requires g c =
    let b = book_of c.args.self.now in
    may_be_woken b c.known.ensures c.requires.step (event.Grow c.args.p c.args.d c.grow-grown.result.capacity)
    (own_none b) tt b.schedule
    (option_to_list c.grow-grown.result.woken) refl (ap option_to_list c.grow-grown.ensures.woken)

pub returns-clause-follows : goal.returns-clause-follows
returns-clause-follows g c =
    let b = book_of c.args.self.now in
    let n = c.grow-grown.result.capacity in
    told b _ c.args.p c.args.d n _ (c.grow-grown.ensures.told b.history c.requires.step.run)
    (followed b c.known.ensures c.requires.step (event.Grow c.args.p c.args.d c.grow-grown.result.capacity)
    (own_none b) tt c.grow-grown.new.self
    c.grow-grown.ensures.changes c.grow-grown.ensures.shape
    (Legal-grown b.tables c.known.ensures b.machine c.requires.step.run.shape c.args.p c.args.d
    c.requires.awaited b.history c.requires.process c.requires.step.run c.requires.owed n c.grow-grown.ensures.capacity)
    (event.Grow c.number.result c.number-2.result n) c.push.new.self b.schedule c.wake.new.schedule
    (option_to_list c.grow-grown.result.woken)
    (ap (λ x. event.Grow x c.number-2.result n) c.number.ensures
    ∙ ap (λ x. event.Grow c.args.p x n) c.number-2.ensures)
    c.push.ensures.events c.push.ensures.kept refl c.wake.ensures (ap option_to_list c.grow-grown.ensures.woken))
