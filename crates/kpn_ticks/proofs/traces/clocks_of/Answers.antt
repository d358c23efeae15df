-- The events of the trace have the clocks of its history.
use Rattle.kpn_ticks.proofs.Common.{◌≡◌, List, IfOk, ap, sym, ◌∙◌, subst, Event, tables_for, Clocks, clocks_after, shown}
use Rattle.kpn_ticks.proofs.Told.{history_clocks}
use Rattle.kpn_ticks.proofs.traces.clocks_of.Goals as goal

pub returns : goal.returns
returns c =
    let t = tables_for c.args.network.now c.args.trace.now in
    let b = c.args.has_capacities in
    subst (λ (s : Clocks). IfOk c.clocks_under.result (λ clocks. shown clocks ≡ s))
    (ap (λ (events : List Event). clocks_after t b events) c.as_slice-events.ensures
    ∙ sym (history_clocks c.args.trace.now.version t b c.args.trace.now.events))
    c.clocks_under.ensures
