use Rattle.kpn_book.proofs.Common.{sym, ap, subst, ◌∙◌, arith, w64, SFits, to_z, of_z, rules, to_z-of_z, option_to_list, made_ready, all_made_ready, IsWriteTo, book_of, held_by, holding, IsHeldBy, Answered, MayBeReady}
use Rattle.kpn_book.specs.declared.answers.Done.TheVariants as done
use Rattle.kpn_book.proofs.Following.{moved}
use Rattle.kpn_book.proofs.open_book.OpenBook.put.Goals as goal

pub go_on-requires-clause-held : goal.go_on-requires-clause-held
go_on-requires-clause-held g c =
    subst (IsHeldBy c.args.hold c.args.p) (sym c.put_item-woken.ensures.schedule) c.requires.may.held

pub go_on-requires-clause-woken : goal.go_on-requires-clause-woken
go_on-requires-clause-woken g c =
    subst (λ s. MayBeReady (made_ready c.args.p (holding c.args.hold c.args.p s))
    (option_to_list c.put_item-woken.result))
    (sym c.put_item-woken.ensures.schedule) c.put_item-woken.ensures.may

pub returns : goal.returns
returns g c =
    let o = held_by c.args.hold c.args.p (book_of c.args.self.now) in
    let put = c.put_item-woken.new.self in
    let fits : SFits w64 c.args.item = search rules in
    let order =
    c.go_on.ensures
    ∙ ap (λ s. all_made_ready (option_to_list c.put_item-woken.result)
    (made_ready c.args.p (holding c.args.hold c.args.p s))) c.put_item-woken.ensures.schedule in
    let pushed = c.put_item-woken.ensures.room in
    record {
      answered =
          subst (λ v. Answered c.args.p (λ s. IsWriteTo o.tables c.args.p s c.args.c v) done.Put o
          (moved (book_of put) put.machine c.go_on.new.schedule)) (to_z-of_z w64 c.args.item fits)
          (subst (λ z. Answered c.args.p
          (λ s. IsWriteTo o.tables c.args.p s c.args.c (to_z w64 (of_z w64 c.args.item))) done.Put o
          (moved (book_of put) put.machine z)) (sym order) c.put_item-woken.ensures.answered);
      room = omega (arith, pushed);
    }
