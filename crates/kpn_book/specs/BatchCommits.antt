-- A book with the events of a batch, which are appended at once.
use Rattle.std.specs.Prelude.{◌+◌, ◌++◌}
use Rattle.kpn_history.specs.Talks.{process_events}
use Rattle.kpn_machine.specs.Machine.{Machine}
use Rattle.kpn_region.specs.Local.{is_in_region}
use Rattle.kpn_region.specs.Batch.{Batch}
use Rattle.kpn_book.specs.Book.{Book}
use Rattle.kpn_book.specs.Regions.{region_woken}

-- the book with the events of a batch, which lead to this machine: each get and put of a process counts as a
-- commit, and those who no longer wait are woken
abbrev pub with_batch : Batch → Machine → Book → Book
with_batch b s book =
    record {
      tables = book.tables;
      history = book.history ++ b.events;
      machine = s;
      schedule = region_woken (is_in_region b.now) s.waits book.schedule;
      commits = book.commits + process_events b.events;
      keeps_events = book.keeps_events;
    }
