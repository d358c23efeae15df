use Rattle.kpn_book.proofs.Joined.{kept_with_batch}
use Rattle.kpn_book.proofs.region_laws.a_book_with_a_batch.Goals as goal

pub returns : goal.returns
returns c b batch book is tables agrees s joins few =
    let follows = c.a_batch_follows.ensures in
    kept_with_batch b book s is.kept joins tables
    (follows.run book.tables is.network b tables batch book.history book.machine s is.kept.in_step.run
    is.kept.nothing_owed agrees joins)
    (follows.nothing book.tables is.network b tables batch book.history book.machine is.kept.in_step.run
    is.kept.nothing_owed agrees)
    few
