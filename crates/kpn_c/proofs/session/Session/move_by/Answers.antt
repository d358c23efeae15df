use Rattle.std.proofs.Common.{◌≡◌, ◌∙◌, ap, subst, rules}
use Rattle.kpn_c.specs.Moving.{Moves}
use Rattle.kpn_c.proofs.Networks.{moves_tables}
use Rattle.kpn_c.proofs.session.Session.move_by.Goals as goal

pub with_room-requires-clause-stays : goal.with_room-requires-clause-stays
with_room-requires-clause-stays c told after kept gives =
    let moves : Moves c.args.items.now c.args.quota c.args.most told gives.slice.now gives.slice_then.now gives.book.now
    gives.book_then.now = search rules in
    subst (λ b. b.tables ≡ c.args.self.book.tables) gives.book_was
    (moves_tables c.args.items.now c.args.quota c.args.most told gives.slice.now gives.slice_then.now gives.book.now
    gives.book_then.now moves ∙ ap (λ b. b.tables) gives.book_is)
