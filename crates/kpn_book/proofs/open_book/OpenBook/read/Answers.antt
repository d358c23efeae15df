use Rattle.kpn_book.proofs.Common.{◌≡◌, false, sym, ap, ◌∙◌, subst, arith, w64, SFits, rules, to_z-of_z, option_to_list, reads_below, made_ready, IsReadFrom, all_made_ready, book_of, held_by, holding, IsHeldBy, Answered, MayBeReady}
use Rattle.kpn_machine.proofs.Exact.{gets_or_waits}
use Rattle.kpn_book.specs.declared.answers.Done.TheVariants as done
use Rattle.kpn_book.proofs.Following.{held_is_there, held_is_free, moved}
use Rattle.kpn_book.proofs.FirstOfQueue.{held_so}
use Rattle.kpn_book.proofs.open_book.OpenBook.read.Goals as goal

pub has_item-requires : goal.has_item-requires
has_item-requires g c =
    let o = held_by c.args.hold c.args.p (book_of c.args.self.now) in
    let held = held_so c.args.hold c.args.p (book_of c.args.self.now) c.requires.may.held in
    let there = held_is_there o c.requires.may.sound.in_step c.args.p held in
    let below = reads_below o.tables c.known.ensures o.machine c.args.p there c.args.c c.requires.reads in
    let long = c.requires.may.sound.in_step.run.shape.channels in
    omega (arith, below, long)

pub wait_on_empty-requires-clause-ready : goal.wait_on_empty-requires-clause-ready
wait_on_empty-requires-clause-ready g c =
    let o = held_by c.args.hold c.args.p (book_of c.args.self.now) in
    let held = held_so c.args.hold c.args.p (book_of c.args.self.now) c.requires.may.held in
    let step = c.requires.may.sound.in_step in
    let no : c.has_item.result ≡ false = search rules in
    gets_or_waits o.tables c.known.ensures o.history o.machine step.run c.args.p c.args.c
    (held_is_there o step c.args.p held) (held_is_free o step c.args.p held) c.requires.reads
    (sym c.has_item.ensures ∙ no)

pub go_on-requires-clause-held : goal.go_on-requires-clause-held
go_on-requires-clause-held g c =
    subst (IsHeldBy c.args.hold c.args.p) (sym c.get_item-got.ensures.schedule) c.requires.may.held

pub go_on-requires-clause-woken : goal.go_on-requires-clause-woken
go_on-requires-clause-woken g c =
    subst (λ s. MayBeReady (made_ready c.args.p (holding c.args.hold c.args.p s))
    (option_to_list c.get_item-got.result.woken))
    (sym c.get_item-got.ensures.schedule) c.get_item-got.ensures.may

pub returns : goal.returns
returns g c =
    let o = held_by c.args.hold c.args.p (book_of c.args.self.now) in
    let got = c.get_item-got.new.self in
    let woken = option_to_list c.get_item-got.result.woken in
    let fits : SFits w64 c.get_item-got.result.item = search rules in
    let order =
    c.go_on.ensures
    ∙ ap (λ s. all_made_ready woken (made_ready c.args.p (holding c.args.hold c.args.p s)))
    c.get_item-got.ensures.schedule in
    let pushed = c.get_item-got.ensures.room in
    record {
      answered =
          subst (λ v. Answered c.args.p (λ s. IsReadFrom o.tables c.args.p s c.args.c) (done.Got v) o
          (moved (book_of got) got.machine c.go_on.new.schedule)) (sym (to_z-of_z w64 c.get_item-got.result.item fits))
          (subst (λ s. Answered c.args.p (λ s. IsReadFrom o.tables c.args.p s c.args.c)
          (done.Got c.get_item-got.result.item) o (moved (book_of got) got.machine s)) (sym order)
          c.get_item-got.ensures.answered);
      room = omega (arith, pushed);
    }
