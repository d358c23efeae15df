use Rattle.kpn_book.proofs.Common.{◌+◌, ◌<◌, ◌^◌, sym, ap, ◌∙◌, subst, rules, put_back, IsKept, book_of}
use Rattle.kpn_book.proofs.Following.{held_is_there, moved}
use Rattle.kpn_book.proofs.Answering.{is_counted}
use Rattle.kpn_book.proofs.Committing.{port_reserved, kept_put_back}
use Rattle.kpn_book.proofs.Settling.{at_stop_here, stands_reserved}
use Rattle.kpn_book.proofs.open_book.OpenBook.commit_or_put_back.Goals as goal

pub reserve-requires-clause-process : goal.reserve-requires-clause-process
reserve-requires-clause-process g c =
    held_is_there (book_of c.args.self.now) c.requires.kept.in_step c.args.p c.requires.held

pub reserve-requires-clause-step : goal.reserve-requires-clause-step
reserve-requires-clause-step g c = c.requires.kept.in_step

pub handle_stop-done-requires-clause-sound : goal.handle_stop-done-requires-clause-sound
handle_stop-done-requires-clause-sound g c =
    let at =
    at_stop_here (book_of c.args.self.now) (book_of c.reserve.new.self) c.args.p c.args.stop c.requires.kept
    c.requires.held c.in_default.ensures.1 in
    record { in_step = at.kept.in_step; nothing_owed = at.kept.nothing_owed }

pub handle_stop-done-requires-clause-held : goal.handle_stop-done-requires-clause-held
handle_stop-done-requires-clause-held g c =
    let at =
    at_stop_here (book_of c.args.self.now) (book_of c.reserve.new.self) c.args.p c.args.stop c.requires.kept
    c.requires.held c.in_default.ensures.1 in
    (at.held.there, at.held.held)

pub handle_stop-done-requires-clause-port : goal.handle_stop-done-requires-clause-port
handle_stop-done-requires-clause-port g c =
    port_reserved c.args.stop (book_of c.args.self.now) (book_of c.reserve.new.self) c.in_default.ensures.1
    c.args.p c.requires.port

pub handle_stop-done-requires-clause-stands : goal.handle_stop-done-requires-clause-stands
handle_stop-done-requires-clause-stands g c =
    stands_reserved (book_of c.args.self.now) (book_of c.reserve.new.self) c.args.p c.args.stop
    c.in_default.ensures.1 c.requires.stands

pub returns-in-Err-clause-commits : goal.returns-in-Err-clause-commits
returns-in-Err-clause-commits g c =
    let a = book_of c.reserve.new.self in (
      c.in-Err.ensures.0,
      ap (moved a a.machine) c.put_back.ensures ∙ ap (put_back c.args.p) c.in-Err.ensures.1,
    )

pub returns-in-Err-clause-kept : goal.returns-in-Err-clause-kept
returns-in-Err-clause-kept g c =
    let a = book_of c.reserve.new.self in
    subst IsKept
    (sym (ap (moved a a.machine) c.put_back.ensures ∙ ap (put_back c.args.p) c.in-Err.ensures.1))
    (kept_put_back (book_of c.args.self.now) c.requires.kept c.args.p c.requires.held)

pub overflow_add-self : goal.overflow_add-self
overflow_add-self g c =
    let at =
    at_stop_here (book_of c.args.self.now) (book_of c.reserve.new.self) c.args.p c.args.stop c.requires.kept
    c.requires.held c.in_default.ensures.1 in
    let below : c.handle_stop-done.new.self.commits + 1 < 2 ^ 64 =
    (is_counted _ _ _ _ _ _ at c.handle_stop-done.ensures.answered).fits in
    search rules

pub returns-clause-commits : goal.returns-clause-commits
returns-clause-commits g c =
    let at =
    at_stop_here (book_of c.args.self.now) (book_of c.reserve.new.self) c.args.p c.args.stop c.requires.kept
    c.requires.held c.in_default.ensures.1 in
    (c.handle_stop-done.result, (is_counted _ _ _ _ _ _ at c.handle_stop-done.ensures.answered).is)

pub returns-clause-kept : goal.returns-clause-kept
returns-clause-kept g c =
    let at =
    at_stop_here (book_of c.args.self.now) (book_of c.reserve.new.self) c.args.p c.args.stop c.requires.kept
    c.requires.held c.in_default.ensures.1 in
    (is_counted _ _ _ _ _ _ at c.handle_stop-done.ensures.answered).kept
