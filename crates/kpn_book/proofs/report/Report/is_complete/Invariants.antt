use Rattle.kpn_book.proofs.Common.{◌<◌, length, Walked, events_of}
use Rattle.kpn_book.proofs.report.Report.is_complete.Given as goal

abbrev pub invariant-loop-step : goal.invariant-loop-step
invariant-loop-step l =
    record {
      there : l.at < length l.network.channels;
      walked : Walked l.network (events_of l.self) l.c l._step l.at;
    }
