-- A legal list has no event that is illegal, and if it is quiet its journals are the least solution.
use Rattle.kpn_audit.proofs.Common.{◌≡◌, ◌⊎◌, ℕ, List, inl, inr, refl, err_from_is_err_and, Legal, Tables, Event, IsFault, history_of, AuditFault}
use Rattle.kpn_audit.specs.declared.findings.AuditFault.TheVariants.{Illegal, NoMemory, Budget, PolicyDiffers}
use Rattle.kpn_audit.proofs.Replaying.{never_illegal}
use Rattle.kpn_audit.proofs.Summed.{least_where_exact}
use Rattle.kpn_audit.proofs.auditor.audit_events.Goals as goal

by_fault : (t : Tables) (H : List Event) (quota : ℕ) → Legal t H → (fault : AuditFault) → IsFault t H quota fault
    → (fault ≡ NoMemory) ⊎ ((k : ℕ) × (fault ≡ Budget k))
by_fault t H quota legal (Illegal k) at = absurd (never_illegal t H k legal at.0)
by_fault t H quota legal NoMemory at = inl refl
by_fault t H quota legal (Budget k) at = inr (k, refl)
by_fault t H quota legal PolicyDiffers at = absurd at

pub returns-in_err-replayed-clause-accepted : goal.returns-in_err-replayed-clause-accepted
returns-in_err-replayed-clause-accepted g c legal =
    let told = err_from_is_err_and c.from_residual.result c.from_residual.ensures.1 in
    rw (told.1, told.2)
    (by_fault c.args.network.now (history_of c.args.version c.args.network.now c.args.events.now) c.args.quota legal c.in_err-replayed.field-0.0
    c.in_err-replayed.ensures.refused)

pub returns-clause-least : goal.returns-clause-least
returns-clause-least g c =
    least_where_exact c.args.network.now c.known.ensures (history_of c.args.version c.args.network.now c.args.events.now) c.in_ok-summary.field-0
    (c.in_ok-summary.ensures (history_of c.args.version c.args.network.now c.args.events.now) c.in_ok-replayed.ensures.run)
