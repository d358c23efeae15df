use Rattle.std.proofs.Common.{◌≡◌, [], ◌∷◌, ◌++◌, rules, subst, w64, SFits}
use Rattle.kpn_stream.proofs.Common.{to_z-of_z, Appends, happens_alone}
use Rattle.kpn_history.specs.declared.event.Event.TheVariants as event
use Rattle.kpn_stream.proofs.reading.feed.Goals as goal

pub returns-in-Ok-clause-fed : goal.returns-in-Ok-clause-fed
returns-in-Ok-clause-fed c =
    let fits : SFits w64 c.args.item = search rules in
    happens_alone (event.Feed c.args.c c.args.item) c.args.book.now c.feed.new.self c.known.ensures
    (subst (λ v. Appends (event.Feed c.args.c v) c.args.book.now c.feed.new.self)
    (to_z-of_z w64 c.args.item fits) c.in-Ok.ensures.done.appends)

pub returns-in-Ok-clause-alone : goal.returns-in-Ok-clause-alone
returns-in-Ok-clause-alone c =
    let fits : SFits w64 c.args.item = search rules in
    subst (λ v. c.feed.new.self.history ≡ c.args.book.now.history ++ event.Feed c.args.c v ∷ [])
    (to_z-of_z w64 c.args.item fits) c.in-Ok.ensures.done.appends.history
