-- Each finding has its text under its status.
use Rattle.kpn_command_explain.proofs.Common.{refl, subst, Tables, IsFinding, IsFlaw, legal, budget}
use Rattle.kpn_command_base.specs.declared.flaw.Flaw.{Flaw}
use Rattle.kpn_command_base.specs.Flaw.{IsFlawTold}
use Rattle.kpn_command_explain.proofs.trace.conclusion.Goals as goal

pub returns-in_ok-legal_text-in-Legal-clause-ok : goal.returns-in_ok-legal_text-in-Legal-clause-ok
returns-in_ok-legal_text-in-Legal-clause-ok c =
    let t = c.args.document.now.tables in
    let trace = c.args.trace.now in
    let found =
    subst (λ (n : Tables). IsFinding n trace c.args.steps c.in_ok-finding.finding) c.network.ensures
    c.in_ok-finding.ensures.found in (
      legal c.in-Legal.audit (subst (IsFinding t trace c.args.steps) c.in-Legal.is found)
          c.in_ok-legal_text-in-Legal.ensures refl,
      c.new.ensures.items,
    )

pub illegal-requires : goal.illegal-requires
illegal-requires c =
    let t = c.args.document.now.tables in
    let trace = c.args.trace.now in
    let found =
    subst (λ (n : Tables). IsFinding n trace c.args.steps c.in_ok-finding.finding) c.network.ensures
    c.in_ok-finding.ensures.found in
    subst (IsFlaw t trace c.args.steps) c.in-Illegal.is
    (subst (IsFinding t trace c.args.steps) c.in-NotLegal.is found)

pub returns-in_ok-conclusion-in-Budget-clause-ok : goal.returns-in_ok-conclusion-in-Budget-clause-ok
returns-in_ok-conclusion-in-Budget-clause-ok c =
    let t = c.args.document.now.tables in
    let trace = c.args.trace.now in
    let made = c.in_ok-conclusion-in-Budget.field-0 in
    let found =
    subst (λ (n : Tables). IsFinding n trace c.args.steps c.in_ok-finding.finding) c.network.ensures
    c.in_ok-finding.ensures.found in
    let is =
    subst (IsFlaw t trace c.args.steps) c.in-Budget.is
    (subst (IsFinding t trace c.args.steps) c.in-NotLegal.is found) in
    let told =
    subst (λ (f : Flaw). IsFlawTold f made.text.items made.status) c.in-Budget.is
    c.in_ok-conclusion-in-Budget.ensures.0 in
    (budget c.in-Budget.field-0 is told.0 told.1, c.in_ok-conclusion-in-Budget.ensures.1)
