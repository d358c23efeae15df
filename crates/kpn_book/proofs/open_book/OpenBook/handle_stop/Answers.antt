use Rattle.kpn_book.proofs.Common.{book_of, held_by}
use Rattle.kpn_book.proofs.Following.{held_is_there}
use Rattle.kpn_book.proofs.FirstOfQueue.{held_so}
use Rattle.kpn_book.proofs.open_book.OpenBook.handle_stop.Goals as goal

pub program-requires : goal.program-requires
program-requires g c =
    let b = book_of c.args.self.now in
    held_is_there (held_by c.args.hold c.args.p b) c.requires.sound.in_step c.args.p
    (held_so c.args.hold c.args.p b c.requires.held)
