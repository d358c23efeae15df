-- A book apart from its network.
use Rattle.kpn_net.specs.Tables.{Tables}
use Rattle.kpn_book.specs.declared.detached.Detached.{Detached}
use Rattle.kpn_book.specs.Book.{Book}

-- the book with these tables
abbrev pub book_on : Tables → Detached → Book
book_on t detached =
    record {
      tables = t;
      history = detached.history.events;
      machine = detached.machine;
      schedule = detached.schedule;
      commits = detached.commits;
      keeps_events = detached.history.is_kept;
    }
