-- If the outside has nothing to do and no process is ready or held, the run is settled.
use Rattle.kpn_book.proofs.Common.{◌≡◌, ℕ, ◌+◌, ◌<◌, ◌^◌, [], length, refl, sym, ap, ◌∙◌, subst, inl, inr, arith, Contains-none, State, unread_on, is_held, HasStopped, IsSettled, ended_by, unread_length, wait_in, end_in, IsEndOf, state_at, Book, held_count, IsBook, IsStateBy, ClaimsNobody, IsLeftToItself}
use Rattle.std.specs.List.{Contains}
use Rattle.std.proofs.lemmas.Bool.{both_ways, eq-eqb}
use Rattle.kpn_history.specs.declared.state.State.TheVariants.{Ready, Held, WaitsEmpty, WaitsFull, Ended}
use Rattle.kpn_book.proofs.Tallies.{not_counted}

module _ (b : Book) (book : IsBook b) where
  -- by how it ended and what it waits for
  stopped_by : (p : ℕ) → p < length b.tables.instances → (state : State)
      → IsStateBy (end_in b.machine p) (wait_in b.machine p) state → (state ≡ Ready → ⊥)
      → (state ≡ Held → ⊥) → HasStopped b.tables b.history p
  stopped_by p below Ready by not_ready not_held = absurd (not_ready refl)
  stopped_by p below Held by not_ready not_held = absurd (not_held refl)
  stopped_by p below (WaitsEmpty c) by not_ready not_held =
      inr (inl (record { channel = c; blocked = sym (book.kept.in_step.run.leads.waits p below) ∙ by.1 }))
  stopped_by p below (WaitsFull c) by not_ready not_held =
      inr (inr (record { channel = c; blocked = sym (book.kept.in_step.run.leads.waits p below) ∙ by.1 }))
  stopped_by p below (Ended how) by not_ready not_held =
      inl (ended_by b.history p how (subst (IsEndOf b.history p) by (book.kept.in_step.run.leads.ends p below)))

  not_ready : b.schedule.queue ≡ [] → (p : ℕ) → p < length b.tables.instances
      → state_at b.schedule.states p ≡ Ready → ⊥
  not_ready none p below ready =
      let there : p < length b.schedule.states = let long = book.kept.in_step.processes in omega arith in
      Contains-none p (subst (λ q. Contains q p) none ((book.schedule.ready p).1 (there, ready)))

  not_held : held_count b ≡ 0 → (p : ℕ) → p < length b.tables.instances → state_at b.schedule.states p ≡ Held → ⊥
  not_held none p below held =
      let there : p < length b.schedule.states = let long = book.kept.in_step.processes in omega arith in
      both_ways (is_held (state_at b.schedule.states p)) (not_counted is_held b.schedule.states none p there)
      (ap is_held held)

  pub settles : IsLeftToItself b → b.schedule.queue ≡ [] → IsSettled b.tables b.history
  settles to_itself none = record {
    processes = λ p below.
        stopped_by p below (state_at b.schedule.states p) (book.kept.in_step.states p below) (not_ready none p below)
        (not_held to_itself.nobody_held p below);
    sources = λ c below source. to_itself.closed c source;
    sinks = λ c below sink.
        let all = to_itself.all_read c sink in
        let long = unread_length b.history c in
        inl (eq-eqb (length (unread_on b.history c)) 0 (omega arith));
  }

  -- so there is somebody to claim if the run goes on
  pub somebody : b.commits + 1 < 2 ^ 64 → IsLeftToItself b → (IsSettled b.tables b.history → ⊥) → ClaimsNobody b → ⊥
  somebody countable to_itself unsettled nobody =
      elim nobody [
        | inl none ↦ unsettled (settles to_itself none)
        | inr many ↦ let held = to_itself.nobody_held in omega arith
      ]
