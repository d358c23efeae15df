-- The book at the start.
use Rattle.kpn_book.proofs.Common.{◌≡◌, ℕ, [], length, count_by, Option, Some, None, refl, sym, ap, ◌∙◌, subst, arith, length-replicate, get_or-replicate, Contains-none, How, Ready, is_held, process_events, OwesNothing, none_owed_at_first, end_in, wait_in, IsEndOf, IsRun, all_ready, state_at, Book, IsStateBy, IsKept}
use Rattle.kpn_history.specs.declared.event.Event.TheVariants as event
use Rattle.kpn_book.proofs.Tallies.{AreCounts-ready}

no_end : (p : ℕ) (end : Option How) → IsEndOf [] p end → end ≡ None
no_end p None is = refl
no_end p (Some how) is = absurd (Contains-none (event.Ended p how) is)

pub kept_at_start : (b : Book) → b.history ≡ [] → IsRun b.tables [] b.machine
    → b.schedule ≡ all_ready (length b.tables.instances) → b.commits ≡ 0 → IsKept b
kept_at_start b nothing run ready none = record {
  in_step = record {
    run = subst (λ H. IsRun b.tables H b.machine) (sym nothing) run;
    processes = ap (λ s. length s.states) ready ∙ length-replicate (length b.tables.instances) Ready;
    states = λ p there.
        subst (λ s. IsStateBy (end_in b.machine p) (wait_in b.machine p)
        (state_at s.states p)) (sym ready)
        (subst (λ x. IsStateBy (end_in b.machine p) (wait_in b.machine p) x)
        (sym (get_or-replicate (length b.tables.instances) p Ready Ready there))
        (no_end p (end_in b.machine p) (run.leads.ends p there), run.leads.waits p there));
  };
  nothing_owed = subst (λ H. OwesNothing b.tables H) (sym nothing) (none_owed_at_first b.tables);
  committed =
      let events = ap process_events nothing in
      omega (arith, events, none);
  countable =
      let held = (AreCounts-ready (length b.tables.instances)).held in
      let now = ap (λ s. count_by is_held s.states) ready in
      omega (arith, held, now, none);
}
