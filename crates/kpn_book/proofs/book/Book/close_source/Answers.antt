use Rattle.kpn_book.proofs.Common.{◌≡◌, true, false, refl, subst, rules, sym, channel_at, is_source, closed_in, Closes, book_of}
use Rattle.kpn_history.specs.declared.event.Event.TheVariants as event
use Rattle.kpn_book.proofs.Following.{recorded}
use Rattle.kpn_book.proofs.Answering.{no_cycle_then, happens}
use Rattle.kpn_book.proofs.Committing.{kept_grown, source_there}
use Rattle.kpn_book.proofs.Outside.{sound_reserved, follows_reserved, closed, in_closed, kept_with_memory}
use Rattle.kpn_book.proofs.book.Book.close_source.Goals as goal

pub close-requires-clause-sound : goal.close-requires-clause-sound
close-requires-clause-sound g c =
    sound_reserved (book_of c.self.inside.parts) c.reserve.new.self c.in_ok-reserve.ensures.events c.in_ok-reserve.ensures.kept
    c.self.invariant

pub grow_at_stop-grown-requires-clause-no_cycle : goal.grow_at_stop-grown-requires-clause-no_cycle
grow_at_stop-grown-requires-clause-no_cycle g c =
    let b = book_of c.self.inside.parts in
    no_cycle_then (event.Close c.args.source) (recorded b c.reserve.new.self b.machine b.schedule)
    (book_of c.close.new.self) c.close.ensures.follows refl

pub invariant_of-self-2 : goal.invariant_of-self-2
invariant_of-self-2 g c =
    let b = book_of c.self.inside.parts in
    kept_grown b (book_of c.close.new.self) _ (event.Close c.args.source) c.grow_at_stop-grown.result c.self.invariant
    (follows_reserved b c.reserve.new.self c.in_ok-reserve.ensures.events c.in_ok-reserve.ensures.kept (event.Close c.args.source)
    (book_of c.close.new.self)
    c.close.ensures.follows) refl c.grow_at_stop-grown.ensures.grows

pub returns-clause-done : goal.returns-clause-done
returns-clause-done g c =
    let b = book_of c.self.inside.parts in
    let a = book_of c.grow_at_stop-grown.new.self in
    let source : is_source (channel_at b.tables c.args.source) ≡ true = search rules in
    let not_closed : closed_in b.machine c.args.source ≡ false = search rules in
    subst (λ x. Closes c.args.source x a) c.self.view_is
    (closed b a c.args.source source not_closed
    (happens (event.Close c.args.source) b (book_of c.close.new.self) a c.grow_at_stop-grown.result
    (follows_reserved b c.reserve.new.self c.in_ok-reserve.ensures.events c.in_ok-reserve.ensures.kept (event.Close c.args.source)
    (book_of c.close.new.self)
    c.close.ensures.follows) c.grow_at_stop-grown.ensures.grows))

pub is_closed-requires : goal.is_closed-requires
is_closed-requires g c =
    let b = book_of c.self.inside.parts in
    in_closed b c.self.invariant c.args.source
    (source_there b.tables c.args.source (sym c.if-not-is_source.ensures))

pub invariant_of-self : goal.invariant_of-self
invariant_of-self g c =
    kept_with_memory (book_of c.self.inside.parts) c.reserve.new.self c.reserve.ensures.events c.reserve.ensures.kept c.self.invariant
