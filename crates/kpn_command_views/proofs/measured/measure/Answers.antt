-- The figures are those of the history.
use Rattle.kpn_command_views.proofs.Common.{subst, Tables, tables_for, history_in, AreFigures, AreTimes}
use Rattle.kpn_command_views.proofs.StatsTold.{of_history}
use Rattle.kpn_command_views.proofs.measured.measure.Goals as goal

pub returns : goal.returns
returns c =
    let d = c.args.document.now in
    let trace = c.args.trace.now in
    let counted =
    subst (λ events. AreFigures c.network-network.result.now events c.in_ok-figures.figures) c.as_slice.ensures
    c.in_ok-figures.ensures in
    let are = subst (λ (t : Tables). AreFigures t trace.events c.in_ok-figures.figures) c.network-network.ensures counted in
    record {
      figures = of_history d.tables trace c.in_ok-figures.figures are;
      times =
          subst (λ (t : Tables). AreTimes (tables_for t trace) (history_in t trace) c.in_ok-times.times)
          c.network-network.ensures c.in_ok-times.ensures;
    }
