use Rattle.kpn_book.proofs.Common.{subst, arith, w64, SFits, rules, to_z-of_z, writes_below, IsWriteTo, book_of, held_by, Answered}
use Rattle.kpn_book.specs.declared.answers.Done.TheVariants as done
use Rattle.kpn_book.proofs.Following.{held_is_there}
use Rattle.kpn_book.proofs.FirstOfQueue.{held_so}
use Rattle.kpn_book.proofs.open_book.OpenBook.write.Goals as goal

pub channel-requires : goal.channel-requires
channel-requires g c =
    let o = held_by c.args.hold c.args.p (book_of c.args.self.now) in
    let held = held_so c.args.hold c.args.p (book_of c.args.self.now) c.requires.may.held in
    let there = held_is_there o c.requires.may.sound.in_step c.args.p held in
    let below =
    writes_below o.tables c.known.ensures o.machine c.args.p there c.args.c c.args.item c.requires.writes in
    let long = c.requires.may.sound.in_step.run.shape.channels in
    omega (arith, below, long)

pub returns-then-is_full : goal.returns-then-is_full
returns-then-is_full g c =
    let o = held_by c.args.hold c.args.p (book_of c.args.self.now) in
    let fits : SFits w64 c.args.item = search rules in
    record {
      answered =
          subst (λ v. Answered c.args.p (λ s. IsWriteTo o.tables c.args.p s c.args.c v) c.wait_on_full.result o
          (book_of c.wait_on_full.new.self)) (to_z-of_z w64 c.args.item fits) c.wait_on_full.ensures.answered;
      room = c.wait_on_full.ensures.room;
    }

pub returns : goal.returns
returns g c =
    let o = held_by c.args.hold c.args.p (book_of c.args.self.now) in
    let fits : SFits w64 c.args.item = search rules in
    record {
      answered =
          subst (λ v. Answered c.args.p (λ s. IsWriteTo o.tables c.args.p s c.args.c v) done.Put o
          (book_of c.put.new.self)) (to_z-of_z w64 c.args.item fits) c.put.ensures.answered;
      room = c.put.ensures.room;
    }
