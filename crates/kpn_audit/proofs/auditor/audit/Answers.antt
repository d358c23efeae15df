-- What holds of the events under their rules holds of the trace.
use Rattle.kpn_audit.proofs.Common.{◌≡◌, ◌⊎◌, ℕ, length, true, Result, Ok, Err, IfOk, IfErr, refl, IfErr-weaker, One, Two, Legal, IsAudit, AreLeast, AreWithinSteps, IsFault}
use Rattle.kpn_audit.specs.declared.findings.AuditFault.TheVariants.{NoMemory, Budget}
use Rattle.kpn_audit.proofs.Telling.{of_trace, one_agrees, plain_tables, refuses_trace}
use Rattle.kpn_audit.proofs.auditor.audit.Goals as goal

-- what holds anyhow holds of each answer
of_any : {T E : Type 0} (r : Result T E) (P : Type 0) → P → IfOk r (λ _. P)
of_any (Ok x) P holds = holds
of_any (Err e) P holds = tt

pub returns-then-has_rules-clause-agrees : goal.returns-then-has_rules-clause-agrees
returns-then-has_rules-clause-agrees g c =
    of_any c.audit_events-then-has_rules.result _ (one_agrees c.args.network.now c.args.trace.now c.in-One.is)

pub returns-then-has_rules-clause-within : goal.returns-then-has_rules-clause-within
returns-then-has_rules-clause-within g c =
    let t = c.args.network.now in
    let same = c.has_rules-in-One.ensures.0 c.if-has_rules.true in
    of_trace t c.args.trace.now One c.in-One.is t (plain_tables t same.0 same.1) c.as_slice-events.result.now
    c.as_slice-events.ensures
    (λ u H. IfOk c.audit_events-then-has_rules.result (λ audit. AreWithinSteps u H c.args.quota (length H)))
    c.audit_events-then-has_rules.ensures.within

pub returns-then-has_rules-clause-refused : goal.returns-then-has_rules-clause-refused
returns-then-has_rules-clause-refused g c =
    let t = c.args.network.now in
    let same = c.has_rules-in-One.ensures.0 c.if-has_rules.true in
    let r = c.audit_events-then-has_rules.result in
    IfErr-weaker r _ _
    (refuses_trace t c.args.trace.now c.args.quota (one_agrees t c.args.trace.now c.in-One.is))
    (of_trace t c.args.trace.now One c.in-One.is t (plain_tables t same.0 same.1) c.as_slice-events.result.now
    c.as_slice-events.ensures (λ u H. IfErr r (IsFault u H c.args.quota))
    c.audit_events-then-has_rules.ensures.refused)

pub returns-else-not-has_rules-clause-agrees : goal.returns-else-not-has_rules-clause-agrees
returns-else-not-has_rules-clause-agrees g c =
    of_any c.audit_events.result _ (λ differs. differs.other (c.has_rules.ensures.0 c.if-not-has_rules.false))

pub returns-else-not-has_rules-clause-within : goal.returns-else-not-has_rules-clause-within
returns-else-not-has_rules-clause-within g c =
    of_trace c.args.network.now c.args.trace.now Two c.in-Two.is c.args.network.now refl
    c.as_slice-events.result.now c.as_slice-events.ensures
    (λ u H. IfOk c.audit_events.result (λ audit. AreWithinSteps u H c.args.quota (length H)))
    c.audit_events.ensures.within

pub returns-else-not-has_rules-clause-refused : goal.returns-else-not-has_rules-clause-refused
returns-else-not-has_rules-clause-refused g c =
    let r = c.audit_events.result in
    IfErr-weaker r _ _
    (refuses_trace c.args.network.now c.args.trace.now c.args.quota
    (λ differs. differs.other (c.has_rules.ensures.0 c.if-not-has_rules.false)))
    (of_trace c.args.network.now c.args.trace.now Two c.in-Two.is c.args.network.now refl
    c.as_slice-events.result.now c.as_slice-events.ensures (λ u H. IfErr r (IsFault u H c.args.quota))
    c.audit_events.ensures.refused)

pub returns-in_ok-plain-in-One-clause-agrees : goal.returns-in_ok-plain-in-One-clause-agrees
returns-in_ok-plain-in-One-clause-agrees g c =
    of_any c.audit_events-in-One.result _ (one_agrees c.args.network.now c.args.trace.now c.in-One.is)

pub returns-in_ok-plain-in-One-clause-within : goal.returns-in_ok-plain-in-One-clause-within
returns-in_ok-plain-in-One-clause-within g c =
    of_trace c.args.network.now c.args.trace.now One c.in-One.is c.in_ok-plain-in-One.plain
    c.in_ok-plain-in-One.ensures c.as_slice-events.result.now c.as_slice-events.ensures
    (λ u H. IfOk c.audit_events-in-One.result (λ audit. AreWithinSteps u H c.args.quota (length H)))
    c.audit_events-in-One.ensures.within

pub returns-in_ok-plain-in-One-clause-refused : goal.returns-in_ok-plain-in-One-clause-refused
returns-in_ok-plain-in-One-clause-refused g c =
    let r = c.audit_events-in-One.result in
    IfErr-weaker r _ _
    (refuses_trace c.args.network.now c.args.trace.now c.args.quota
    (one_agrees c.args.network.now c.args.trace.now c.in-One.is))
    (of_trace c.args.network.now c.args.trace.now One c.in-One.is c.in_ok-plain-in-One.plain
    c.in_ok-plain-in-One.ensures c.as_slice-events.result.now c.as_slice-events.ensures
    (λ u H. IfErr r (IsFault u H c.args.quota))
    c.audit_events-in-One.ensures.refused)

pub returns-then-has_rules-clause-legal : goal.returns-then-has_rules-clause-legal
returns-then-has_rules-clause-legal g c =
    let t = c.args.network.now in
    let same = c.has_rules-in-One.ensures.0 c.if-has_rules.true in
    of_trace t c.args.trace.now One c.in-One.is t (plain_tables t same.0 same.1) c.as_slice-events.result.now
    c.as_slice-events.ensures (λ u H. IfOk c.audit_events-then-has_rules.result (λ audit. IsAudit u H audit))
    c.audit_events-then-has_rules.ensures.legal

pub returns-then-has_rules-clause-least : goal.returns-then-has_rules-clause-least
returns-then-has_rules-clause-least g c =
    let t = c.args.network.now in
    let same = c.has_rules-in-One.ensures.0 c.if-has_rules.true in
    of_trace t c.args.trace.now One c.in-One.is t (plain_tables t same.0 same.1) c.as_slice-events.result.now
    c.as_slice-events.ensures
    (λ u H. IfOk c.audit_events-then-has_rules.result (λ audit. audit.exact ≡ true → AreLeast u H audit))
    c.audit_events-then-has_rules.ensures.least

pub returns-then-has_rules-clause-accepted : goal.returns-then-has_rules-clause-accepted
returns-then-has_rules-clause-accepted g c agrees =
    let t = c.args.network.now in
    let same = c.has_rules-in-One.ensures.0 c.if-has_rules.true in
    of_trace t c.args.trace.now One c.in-One.is t (plain_tables t same.0 same.1) c.as_slice-events.result.now
    c.as_slice-events.ensures
    (λ u H. Legal u H → IfErr c.audit_events-then-has_rules.result
    (λ fault. (fault ≡ NoMemory) ⊎ ((k : ℕ) × (fault ≡ Budget k))))
    c.audit_events-then-has_rules.ensures.accepted

pub returns-else-not-has_rules-clause-least : goal.returns-else-not-has_rules-clause-least
returns-else-not-has_rules-clause-least g c =
    of_trace c.args.network.now c.args.trace.now Two c.in-Two.is c.args.network.now refl
    c.as_slice-events.result.now c.as_slice-events.ensures
    (λ u H. IfOk c.audit_events.result (λ audit. audit.exact ≡ true → AreLeast u H audit))
    c.audit_events.ensures.least

pub returns-in_ok-plain-in-One-clause-least : goal.returns-in_ok-plain-in-One-clause-least
returns-in_ok-plain-in-One-clause-least g c =
    of_trace c.args.network.now c.args.trace.now One c.in-One.is c.in_ok-plain-in-One.plain
    c.in_ok-plain-in-One.ensures c.as_slice-events.result.now c.as_slice-events.ensures
    (λ u H. IfOk c.audit_events-in-One.result (λ audit. audit.exact ≡ true → AreLeast u H audit))
    c.audit_events-in-One.ensures.least
