use Rattle.kpn_book.proofs.Common.{sym, subst, w64, SFits, rules, to_z-of_z, writes_below, IsWriteTo, book_of, first_claimed, Answered}
use Rattle.kpn_book.specs.declared.answers.Done.TheVariants as done
use Rattle.kpn_book.proofs.Following.{held_is_there}
use Rattle.kpn_book.proofs.FirstOfQueue.{held_first, puts_on_it, puts_on_none}
use Rattle.kpn_book.proofs.open_book.OpenBook.write_later.Goals as goal

pub if_sink-requires : goal.if_sink-requires
if_sink-requires g c =
    let o = first_claimed c.args.p (book_of c.args.self.now) in
    let held = held_first (book_of c.args.self.now) c.args.p c.requires.may.held in
    let there = held_is_there o c.requires.may.sound.in_step c.args.p held in
    writes_below o.tables c.known.ensures o.machine c.args.p there c.args.c c.args.item c.requires.writes

pub returns-in-Put-clause-answered : goal.returns-in-Put-clause-answered
returns-in-Put-clause-answered g c =
    let o = first_claimed c.args.p (book_of c.args.self.now) in
    let fits : SFits w64 c.args.item = search rules in
    let made =
    subst (λ v. Answered c.args.p (λ s. IsWriteTo o.tables c.args.p s c.args.c v) c.write.result o
    (book_of c.write.new.self)) (to_z-of_z w64 c.args.item fits) c.write.ensures.answered in
    record {
      answer = done.Put;
      answered =
          subst (λ answer. Answered c.args.p (λ s. IsWriteTo o.tables c.args.p s c.args.c c.args.item) answer o
          (book_of c.write.new.self)) c.in-Put.is made;
      sink_is = λ s asks. puts_on_it o.tables c.args.p c.args.c c.args.item s asks c.if_sink.result c.if_sink.ensures;
    }

pub returns-in_default : goal.returns-in_default
returns-in_default g c =
    let o = first_claimed c.args.p (book_of c.args.self.now) in
    let fits : SFits w64 c.args.item = search rules in
    record {
      answered = record {
        answer = c.write.result;
        answered =
            subst (λ v. Answered c.args.p (λ s. IsWriteTo o.tables c.args.p s c.args.c v) c.write.result o
            (book_of c.write.new.self)) (to_z-of_z w64 c.args.item fits) c.write.ensures.answered;
        sink_is = λ s asks. sym (puts_on_none o.tables c.args.p c.write.result c.in_default.not-Put s);
      };
      room = c.write.ensures.room;
    }
