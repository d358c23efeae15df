-- What is measured of a legal history.
use Rattle.std.specs.declared.alloc.Global.{Global}
use Rattle.kpn_history.specs.declared.stored.Trace.{Trace}
use Rattle.kpn_text.specs.Document.{Document}
use Rattle.kpn_audit.specs.Stored.{tables_for, history_in}
use Rattle.kpn_command_views.specs.declared.measured.Measured.{Measured}
use Rattle.kpn_command_views.specs.Figures.{AreFigures}
use Rattle.kpn_command_views.specs.HistoryTimes.{AreTimes}

-- these are the figures and the times of the history of a trace
pub record AreMeasured (d : Document) (trace : Trace Global) (measured : Measured) : Type 0 where
  pub figures : AreFigures d.tables (history_in d.tables trace) measured.figures
  pub times : AreTimes (tables_for d.tables trace) (history_in d.tables trace) measured.times
