-- The events of the trace have the shares of its history.
use Rattle.kpn_ticks.proofs.Common.{◌≡◌, ℕ, List, IfOk, ap, sym, ◌∙◌, subst, Event, tables_for, shares_of}
use Rattle.kpn_ticks.proofs.Told.{history_shares}
use Rattle.kpn_ticks.proofs.walk.shares_of.Goals as goal

pub returns : goal.returns
returns c =
    let t = tables_for c.args.network.now c.args.trace.now in
    subst (λ (xs : List ℕ). IfOk c.shares_under.result (λ shares. shares.items ≡ xs))
    (ap (λ (events : List Event). shares_of t events) c.as_slice-events.ensures
    ∙ sym (history_shares c.args.trace.now.version t c.args.trace.now.events))
    c.shares_under.ensures
