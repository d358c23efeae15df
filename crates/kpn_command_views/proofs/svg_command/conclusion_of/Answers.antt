-- The events of the trace have the picture of its history, with the waits that the audit finds.
use Rattle.kpn_command_views.proofs.Common.{◌≤◌, List, refl, ap₂, subst, ◌∙◌, Wait, Event, tables_for, picture, picture_size, IsNoPicture}
use Rattle.kpn_command_views.proofs.PictureTold.{same_picture, same_size}
use Rattle.kpn_command_views.proofs.svg_command.conclusion_of.Goals as goal

pub returns-in-Ok-clause-ok : goal.returns-in-Ok-clause-ok
returns-in-Ok-clause-ok c =
    let a = c.args in
    let d = a.audited.now.document in
    let trace = a.audited.now.trace in
    let t = tables_for d.tables trace in
    let audit = c.in-Legal.audit in
    let made = c.in-Ok.ensures.ok in
    rw c.in-Legal.is (
      (
        (
          made.0
              ∙ ap₂ (λ (ws : List Wait) (es : List Event). picture d t a.first a.last ws es) c.as_slice-waits.ensures
              c.as_slice-events.ensures
              ∙ same_picture d t a.first a.last audit.waits trace.version trace.events,
          subst (λ n. n ≤ 2000)
              (ap₂ (λ (ws : List Wait) (es : List Event). picture_size d t a.first a.last ws es)
              c.as_slice-waits.ensures c.as_slice-events.ensures
              ∙ same_size d t a.first a.last audit.waits trace.version trace.events) made.1,
        ),
        refl,
      ),
      c.new.ensures.items,
    )

pub returns-in-Err-clause-refused : goal.returns-in-Err-clause-refused
returns-in-Err-clause-refused c =
    let a = c.args in
    let d = a.audited.now.document in
    let trace = a.audited.now.trace in
    let t = tables_for d.tables trace in
    let audit = c.in-Legal.audit in
    rw c.in-Legal.is
    (subst (λ n. IsNoPicture n c.in-Err.refusal)
    (ap₂ (λ (ws : List Wait) (es : List Event). picture_size d t a.first a.last ws es) c.as_slice-waits.ensures
    c.as_slice-events.ensures
    ∙ same_size d t a.first a.last audit.waits trace.version trace.events) c.in-Err.ensures.refused)
