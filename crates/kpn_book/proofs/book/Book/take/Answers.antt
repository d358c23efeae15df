use Rattle.kpn_book.proofs.Common.{◌≡◌, true, false, refl, subst, Some, None, sym, ◌∙◌, w64, SFits, to_z, of_z, rules, to_z-of_z, channel_at, is_sink, channel_in, Takes, book_of}
use Rattle.kpn_history.specs.declared.event.Event.TheVariants as event
use Rattle.kpn_net.proofs.Networks.{sink_there}
use Rattle.kpn_book.proofs.Following.{recorded}
use Rattle.kpn_book.proofs.Answering.{no_cycle_then, happens}
use Rattle.kpn_book.proofs.Committing.{kept_grown}
use Rattle.kpn_book.proofs.Outside.{sound_reserved, follows_reserved, nothing_to_take, taken, in_channels, kept_with_memory}
use Rattle.kpn_book.proofs.book.Book.take.Goals as goal

pub returns-then-not-has_item-clause-done : goal.returns-then-not-has_item-clause-done
returns-then-not-has_item-clause-done g c =
    let b = book_of c.self.inside.parts in
    let sink : is_sink (channel_at b.tables c.args.sink) ≡ true = search rules in
    let not_left : (channel_in b.machine c.args.sink).is_retired ≡ false = search rules in
    let none : c.has_item.result ≡ false = search rules in
    subst (λ x. Takes c.args.sink None x x) c.self.view_is
    (record {
      sink = record { sink = sink; not_left = not_left };
      takes = (
        nothing_to_take (channel_in b.machine c.args.sink) not_left (sym c.has_item.ensures ∙ none),
        refl,
      );
    })

pub take-item-requires-clause-sound : goal.take-item-requires-clause-sound
take-item-requires-clause-sound g c =
    sound_reserved (book_of c.self.inside.parts) c.reserve.new.self c.in_ok-reserve.ensures.events c.in_ok-reserve.ensures.kept
    c.self.invariant

pub grow_at_stop-grown-requires-clause-no_cycle : goal.grow_at_stop-grown-requires-clause-no_cycle
grow_at_stop-grown-requires-clause-no_cycle g c =
    let b = book_of c.self.inside.parts in
    no_cycle_then (event.Take c.args.sink c.take-item.result)
    (recorded b c.reserve.new.self b.machine b.schedule)
    (book_of c.take-item.new.self) c.take-item.ensures.follows refl

pub invariant_of-self-2 : goal.invariant_of-self-2
invariant_of-self-2 g c =
    let b = book_of c.self.inside.parts in
    kept_grown b (book_of c.take-item.new.self) _ (event.Take c.args.sink c.take-item.result)
    c.grow_at_stop-grown.result c.self.invariant
    (follows_reserved b c.reserve.new.self c.in_ok-reserve.ensures.events c.in_ok-reserve.ensures.kept
    (event.Take c.args.sink c.take-item.result) (book_of c.take-item.new.self)
    c.take-item.ensures.follows) refl c.grow_at_stop-grown.ensures.grows

pub returns-clause-done : goal.returns-clause-done
returns-clause-done g c =
    let b = book_of c.self.inside.parts in
    let a = book_of c.grow_at_stop-grown.new.self in
    let e = event.Take c.args.sink c.take-item.result in
    let fits : SFits w64 c.take-item.result = search rules in
    let sink : is_sink (channel_at b.tables c.args.sink) ≡ true = search rules in
    let not_left : (channel_in b.machine c.args.sink).is_retired ≡ false = search rules in
    subst (λ x. Takes c.args.sink (Some (to_z w64 (of_z w64 c.take-item.result))) x a) c.self.view_is
    (subst (λ v. Takes c.args.sink (Some v) b a) (sym (to_z-of_z w64 c.take-item.result fits))
    (taken b a c.args.sink c.take-item.result sink not_left c.take-item.ensures.item
    (happens e b (book_of c.take-item.new.self) a c.grow_at_stop-grown.result
    (follows_reserved b c.reserve.new.self c.in_ok-reserve.ensures.events c.in_ok-reserve.ensures.kept e (book_of c.take-item.new.self)
    c.take-item.ensures.follows) c.grow_at_stop-grown.ensures.grows)))

pub channel-requires : goal.channel-requires
channel-requires g c =
    let b = book_of c.self.inside.parts in
    in_channels b c.self.invariant c.args.sink (sink_there b.tables c.args.sink (sym c.if-not-is_sink.ensures))

pub has_item-requires : goal.has_item-requires
has_item-requires g c =
    let b = book_of c.self.inside.parts in
    in_channels b c.self.invariant c.args.sink (sink_there b.tables c.args.sink (sym c.if-not-is_sink.ensures))

pub invariant_of-self : goal.invariant_of-self
invariant_of-self g c =
    kept_with_memory (book_of c.self.inside.parts) c.reserve.new.self c.reserve.ensures.events c.reserve.ensures.kept c.self.invariant
