use Rattle.kpn_book.proofs.Common.{◌≡◌, true, false, refl, subst, rules, sym, channel_at, is_sink, channel_in, Leaves, book_of}
use Rattle.kpn_history.specs.declared.event.Event.TheVariants as event
use Rattle.kpn_net.proofs.Networks.{sink_there}
use Rattle.kpn_book.proofs.Following.{recorded}
use Rattle.kpn_book.proofs.Answering.{no_cycle_then, happens}
use Rattle.kpn_book.proofs.Committing.{kept_grown}
use Rattle.kpn_book.proofs.Outside.{sound_reserved, follows_reserved, left, in_channels, kept_with_memory}
use Rattle.kpn_book.proofs.book.Book.leave_sink.Goals as goal

pub leave-requires-clause-sound : goal.leave-requires-clause-sound
leave-requires-clause-sound g c =
    sound_reserved (book_of c.self.inside.parts) c.reserve.new.self c.in_ok-reserve.ensures.events c.in_ok-reserve.ensures.kept
    c.self.invariant

pub grow_at_stop-grown-requires-clause-no_cycle : goal.grow_at_stop-grown-requires-clause-no_cycle
grow_at_stop-grown-requires-clause-no_cycle g c =
    let b = book_of c.self.inside.parts in
    no_cycle_then (event.Leave c.args.sink) (recorded b c.reserve.new.self b.machine b.schedule)
    (book_of c.leave.new.self) c.leave.ensures.follows refl

pub invariant_of-self-2 : goal.invariant_of-self-2
invariant_of-self-2 g c =
    let b = book_of c.self.inside.parts in
    kept_grown b (book_of c.leave.new.self) _ (event.Leave c.args.sink) c.grow_at_stop-grown.result c.self.invariant
    (follows_reserved b c.reserve.new.self c.in_ok-reserve.ensures.events c.in_ok-reserve.ensures.kept (event.Leave c.args.sink)
    (book_of c.leave.new.self)
    c.leave.ensures.follows) refl c.grow_at_stop-grown.ensures.grows

pub returns-clause-done : goal.returns-clause-done
returns-clause-done g c =
    let b = book_of c.self.inside.parts in
    let a = book_of c.grow_at_stop-grown.new.self in
    let sink : is_sink (channel_at b.tables c.args.sink) ≡ true = search rules in
    let not_left : (channel_in b.machine c.args.sink).is_retired ≡ false = search rules in
    subst (λ x. Leaves c.args.sink x a) c.self.view_is
    (left b a c.args.sink sink not_left
    (happens (event.Leave c.args.sink) b (book_of c.leave.new.self) a c.grow_at_stop-grown.result
    (follows_reserved b c.reserve.new.self c.in_ok-reserve.ensures.events c.in_ok-reserve.ensures.kept (event.Leave c.args.sink)
    (book_of c.leave.new.self)
    c.leave.ensures.follows) c.grow_at_stop-grown.ensures.grows))

pub channel-requires : goal.channel-requires
channel-requires g c =
    let b = book_of c.self.inside.parts in
    in_channels b c.self.invariant c.args.sink (sink_there b.tables c.args.sink (sym c.if-not-is_sink.ensures))

pub invariant_of-self : goal.invariant_of-self
invariant_of-self g c =
    kept_with_memory (book_of c.self.inside.parts) c.reserve.new.self c.reserve.ensures.events c.reserve.ensures.kept c.self.invariant
