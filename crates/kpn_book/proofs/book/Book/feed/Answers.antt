use Rattle.kpn_book.proofs.Common.{◌<◌, length, refl, sym, ap, subst, ◌∙◌, ◌∷◌, ◌++◌, [], arith, w64, SFits, to_z, of_z, rules, IsTrue, to_z-of_z, option_to_list, Changes, IsKept, AcceptsItem, Feeds, book_of, channel_in}
use Rattle.kpn_history.specs.declared.event.Event.TheVariants as event
use Rattle.kpn_book.proofs.Reserved.{is_reserved_here}
use Rattle.kpn_book.proofs.Following.{own_none, may_be_woken, channel_fits, recorded, moved}
use Rattle.kpn_book.proofs.Committing.{kept_outside, source_there}
use Rattle.kpn_book.proofs.Outside.{kept_with_item, fed_follows, fed, in_channels, kept_with_memory}
use Rattle.kpn_book.proofs.book.Book.feed.Given as given
use Rattle.kpn_book.proofs.book.Book.feed.Goals as goal
use Rattle.kpn_book.proofs.book.Book.feed.Goals.{After-wake}

feeds : (g : given.Over) (c : After-wake g)
    → let a = recorded (book_of c.self.inside.parts) c.push.new.self c.feed-woken.new.self c.wake.new.schedule in
    IsKept a × Feeds c.args.source c.args.item c.args.bound c.args.self.now a
feeds g c =
    let b = book_of c.self.inside.parts in
    let may = subst (AcceptsItem c.args.source c.args.bound) (sym c.self.view_is) c.in_default.ensures.none in
    let there = source_there b.tables c.args.source may.0.source in
    let long = c.self.invariant.in_step.run.shape.channels in
    let below : c.args.source < length b.machine.channels = omega (arith, there, long) in
    let fits : SFits w64 c.args.item = search rules in
    let o = moved b c.reserve_one.new.self b.schedule in
    let a = recorded b c.push.new.self c.feed-woken.new.self c.wake.new.schedule in
    let with_room = ap (λ s. moved b s b.schedule) c.in_ok-reserve_one.ensures.after in
    let follows =
    fed_follows b c.known.ensures c.self.invariant c.args.source c.args.item may.0.source may.0.not_closed
    c.reserve_one.new.self c.feed-woken.new.self c.in_ok-reserve_one.ensures.after
    (subst (λ x. Changes b.tables (event.Feed c.args.source x) c.reserve_one.new.self c.feed-woken.new.self)
    (to_z-of_z w64 c.args.item fits) c.feed-woken.ensures.changes) c.feed-woken.ensures.shape
    (event.Feed c.number.result (to_z w64 (of_z w64 c.args.item))) c.push.new.self c.wake.new.schedule
    (option_to_list c.feed-woken.result)
    (ap (λ x. event.Feed x (to_z w64 (of_z w64 c.args.item))) c.number.ensures
    ∙ ap (λ x. event.Feed c.args.source x) (to_z-of_z w64 c.args.item fits))
    (c.push.ensures.events
    ∙ ap (λ H. H ++ event.Feed c.number.result (to_z w64 (of_z w64 c.args.item)) ∷ []) c.reserve.ensures.events)
    (c.push.ensures.kept ∙ c.reserve.ensures.kept)
    c.wake.ensures (ap option_to_list c.feed-woken.ensures.woken) in (
      kept_outside o a (event.Feed c.args.source c.args.item) c.known.ensures
          (kept_with_item b o c.args.source below with_room c.self.invariant) follows refl refl refl,
      subst (λ x. Feeds c.args.source c.args.item c.args.bound x a) c.self.view_is
          (fed b o a c.args.source c.args.item c.args.bound may.0.source may.0.not_closed may.1 below with_room follows),
    )

pub number-requires : goal.number-requires
number-requires g c =
    let b = book_of c.self.inside.parts in
    let may = subst (AcceptsItem c.args.source c.args.bound) (sym c.self.view_is) c.in_default.ensures.none in
    channel_fits b.tables c.known.ensures c.args.source (source_there b.tables c.args.source may.0.source)

pub wake-requires : goal.wake-requires
wake-requires g c =
    let b = book_of c.self.inside.parts in
    let may = subst (AcceptsItem c.args.source c.args.bound) (sym c.self.view_is) c.in_default.ensures.none in
    let there = source_there b.tables c.args.source may.0.source in
    let long = c.self.invariant.in_step.run.shape.channels in
    let below : c.args.source < length b.machine.channels = omega (arith, there, long) in
    let o = moved b c.reserve_one.new.self b.schedule in
    let now = kept_with_item b o c.args.source below
    (ap (λ s. moved b s b.schedule) c.in_ok-reserve_one.ensures.after) c.self.invariant in
    may_be_woken o c.known.ensures now.in_step (event.Feed c.args.source c.args.item) (own_none o) tt b.schedule
    (option_to_list c.feed-woken.result) refl (ap option_to_list c.feed-woken.ensures.woken)

pub invariant_of-self-2 : goal.invariant_of-self-2
invariant_of-self-2 g c = (feeds g (goal.at.invariant_of-self-2 g c).After-wake).0

pub returns-clause-done : goal.returns-clause-done
returns-clause-done g c = (feeds g (goal.at.returns-clause-done g c).After-wake).1

pub reserve_one-requires : goal.reserve_one-requires
reserve_one-requires g c =
    let b = book_of c.self.inside.parts in
    let may = subst (AcceptsItem c.args.source c.args.bound) (sym c.self.view_is) c.in_default.ensures.none in
    in_channels b c.self.invariant c.args.source (source_there b.tables c.args.source may.0.source)

pub feed-woken-requires-clause-shape : goal.feed-woken-requires-clause-shape
feed-woken-requires-clause-shape g c = c.reserve_one.ensures.shape _ c.self.invariant.in_step.run.shape

pub feed-woken-requires-clause-channel : goal.feed-woken-requires-clause-channel
feed-woken-requires-clause-channel g c =
    let b = book_of c.self.inside.parts in
    let may = subst (AcceptsItem c.args.source c.args.bound) (sym c.self.view_is) c.in_default.ensures.none in
    source_there b.tables c.args.source may.0.source

pub feed-woken-requires-clause-reserved : goal.feed-woken-requires-clause-reserved
feed-woken-requires-clause-reserved g c =
    let b = book_of c.self.inside.parts in
    let may = subst (AcceptsItem c.args.source c.args.bound) (sym c.self.view_is) c.in_default.ensures.none in
    subst (λ s. IsTrue (channel_in s c.args.source).is_reserved) (sym c.in_ok-reserve_one.ensures.after)
    (is_reserved_here b c.args.source
    (in_channels b c.self.invariant c.args.source (source_there b.tables c.args.source may.0.source)))

pub invariant_of-self : goal.invariant_of-self
invariant_of-self g c =
    kept_with_memory (book_of c.self.inside.parts) c.reserve.new.self c.reserve.ensures.events c.reserve.ensures.kept c.self.invariant

pub invariant_of-self-in_err-reserve_one : goal.invariant_of-self-in_err-reserve_one
invariant_of-self-in_err-reserve_one g c =
    let b = book_of c.self.inside.parts in
    subst (λ s. IsKept (recorded b c.reserve.new.self s b.schedule)) (sym c.in_err-reserve_one.ensures.after)
    (kept_with_memory b c.reserve.new.self c.reserve.ensures.events c.reserve.ensures.kept c.self.invariant)
