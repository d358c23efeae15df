-- The events of the trace have the timeline of its history.
use Rattle.kpn_command_views.proofs.Common.{List, refl, ap₂, ◌∙◌, subst, Appends, Wait, Event, tables_for, timeline}
use Rattle.kpn_command_views.proofs.TimelineTold.{of_history}
use Rattle.kpn_command_views.proofs.timelines.told.Goals as goal

pub returns-in_ok-send_under-in-Legal : goal.returns-in_ok-send_under-in-Legal
returns-in_ok-send_under-in-Legal g c =
    let a = c.args.audited.now in
    let t = tables_for a.document.tables a.trace in
    let contents = g.W.Write.contents in
    rw c.in-Legal.is
    (record {
      text = _;
      right = (refl, refl);
      sent =
          subst (Appends (contents c.args.out.now) (contents c.send_under.new.out))
          (ap₂ (λ (waits : List Wait) (events : List Event). timeline a.document t waits events)
          c.as_slice-waits.ensures c.as_slice-events.ensures
          ∙ of_history a.document a.trace c.in-Legal.audit.waits)
          c.in_ok-send_under-in-Legal.ensures;
    })

pub returns-in-NotLegal : goal.returns-in-NotLegal
returns-in-NotLegal g c = rw c.in-NotLegal.is c.send_flaw.ensures
