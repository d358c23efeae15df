use Rattle.kpn_pool_desk.proofs.Common.{sym, ◌∙◌, subst, Remembers}
use Rattle.kpn_pool_desk.proofs.desk.Desk.new.Goals as goal

pub invariant_of-result : goal.invariant_of-result
invariant_of-result g c =
    record {
      network = c.in_ok-book.ensures.tables ∙ c.requires.network;
      book = c.in_ok-book.ensures.book;
      remembers =
          subst (λ keeping. Remembers keeping c.in_ok-book.book) c.requires.kept c.in_ok-book.ensures.kept;
      counted = c.requires.total ∙ sym c.in_ok-book.ensures.commits;
      workers = c.requires.workers;
    }
