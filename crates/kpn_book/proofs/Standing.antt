-- What holds of every book.
use Rattle.kpn_book.proofs.Common.{◌≡◌, ℕ, suc, ◌+◌, ◌<◌, Bool, cond, List, [], ◌∷◌, ◌++◌, length, get_or, count_by, Option, Some, refl, sym, ap, ◌∙◌, subst, arith, sum_by-cons, IsPrefix, Wait, Nobody, larger_capacity, IsNetwork, How, Event, Counts, State, capacity_or_zero, Legal, MayFollow, OwesGrowth, wait_of, waits_of, IsStateOf, AreCounts, waits_empty, waits_full, Legal-prefix, Legal-exactly, end_in, wait_in, is_empty_wait, is_full_wait, IsEndOf, same_waits, ended_waits_for_nobody, state_at, Book, IsStateBy, IsInStep, IsBook}
use Rattle.kpn_history.specs.declared.event.Event.TheVariants as event
use Rattle.kpn_history.specs.declared.state.State.TheVariants.{Ready, Held, WaitsEmpty, WaitsFull, Ended}

-- ---- states

state_of : (t : _) (H : List Event) (p : ℕ) (end : Option How) (wait : Wait) (x : State) → IsEndOf H p end
    → wait ≡ wait_of t H p → IsStateBy end wait x → IsStateOf t H p x
state_of t H p end wait Ready ends waits is = (subst (λ e. IsEndOf H p e) is.0 ends, sym waits ∙ is.1)
state_of t H p end wait Held ends waits is = (subst (λ e. IsEndOf H p e) is.0 ends, sym waits ∙ is.1)
state_of t H p end wait (WaitsEmpty c) ends waits is = (subst (λ e. IsEndOf H p e) is.0 ends, sym waits ∙ is.1)
state_of t H p end wait (WaitsFull c) ends waits is = (subst (λ e. IsEndOf H p e) is.0 ends, sym waits ∙ is.1)
state_of t H p end wait (Ended how) ends waits is = subst (λ e. IsEndOf H p e) is ends

pub states_in_step : (b : Book) → IsInStep b → (p : ℕ) → p < length b.tables.instances
    → IsStateOf b.tables b.history p (state_at b.schedule.states p)
states_in_step b step p there =
    state_of b.tables b.history p (end_in b.machine p) (wait_in b.machine p)
    (state_at b.schedule.states p) (step.run.leads.ends p there) (step.run.leads.waits p there) (step.states p there)

pub states_now : (b : Book) → IsBook b → (p : ℕ) → p < length b.tables.instances
    → IsStateOf b.tables b.history p (state_at b.schedule.states p)
states_now b book = states_in_step b book.kept.in_step

-- ---- counts

same_counts : (f : State → Bool) (g : Wait → Bool) (xs : List State) (ys : List Wait) → length xs ≡ length ys
    → ((i : ℕ) → i < length xs → f (get_or xs i Ready) ≡ g (get_or ys i Nobody)) → count_by f xs ≡ count_by g ys
same_counts f g [] [] long each = refl
same_counts f g [] (y ∷ ys) long each = absurd (omega arith)
same_counts f g (x ∷ xs) [] long each = absurd (omega arith)
same_counts f g (x ∷ xs) (y ∷ ys) long each =
    sum_by-cons (λ z. cond (f z) 1 0) x xs
    ∙ ap (λ b. cond b 1 0 + count_by f xs) (each 0 (omega arith))
    ∙ ap (λ n. cond (g y) 1 0 + n)
    (same_counts f g xs ys (omega arith) (λ i below. each (suc i) (omega (arith, below))))
    ∙ sym (sum_by-cons (λ z. cond (g z) 1 0) y ys)

on_empty : (end : Option How) (wait : Wait) (x : State) → ((how : How) → end ≡ Some how → wait ≡ Nobody)
    → IsStateBy end wait x → waits_empty x ≡ is_empty_wait wait
on_empty end wait Ready ended is = sym (ap is_empty_wait is.1)
on_empty end wait Held ended is = sym (ap is_empty_wait is.1)
on_empty end wait (WaitsEmpty c) ended is = sym (ap is_empty_wait is.1)
on_empty end wait (WaitsFull c) ended is = sym (ap is_empty_wait is.1)
on_empty end wait (Ended how) ended is = sym (ap is_empty_wait (ended how is))

on_full : (end : Option How) (wait : Wait) (x : State) → ((how : How) → end ≡ Some how → wait ≡ Nobody)
    → IsStateBy end wait x → waits_full x ≡ is_full_wait wait
on_full end wait Ready ended is = sym (ap is_full_wait is.1)
on_full end wait Held ended is = sym (ap is_full_wait is.1)
on_full end wait (WaitsEmpty c) ended is = sym (ap is_full_wait is.1)
on_full end wait (WaitsFull c) ended is = sym (ap is_full_wait is.1)
on_full end wait (Ended how) ended is = sym (ap is_full_wait (ended how is))

module _ (b : Book) (network : IsNetwork b.tables) (step : IsInStep b) where
  as_long : length b.schedule.states ≡ length b.machine.waits
  as_long = step.processes ∙ sym step.run.shape.waits.one_each

  nobody_at_end : (p : ℕ) → p < length b.tables.instances → (how : How) → end_in b.machine p ≡ Some how
      → wait_in b.machine p ≡ Nobody
  nobody_at_end p there how is =
      ended_waits_for_nobody b.tables network b.history b.machine step.run p there how is

  pub empty_count : (counts : Counts) → AreCounts b.schedule.states counts
      → counts.empty ≡ count_by is_empty_wait (waits_of b.tables b.history)
  empty_count counts are =
      are.empty
      ∙ same_counts waits_empty is_empty_wait b.schedule.states b.machine.waits as_long
      (λ p below.
      let there : p < length b.tables.instances = let long = step.processes in omega
      (arith, long, below) in
      on_empty (end_in b.machine p) (wait_in b.machine p) (state_at b.schedule.states p)
      (nobody_at_end p there) (step.states p there))
      ∙ ap (count_by is_empty_wait)
      (same_waits b.tables network b.history b.machine step.run)

  pub full_count : (counts : Counts) → AreCounts b.schedule.states counts
      → counts.full ≡ count_by is_full_wait (waits_of b.tables b.history)
  full_count counts are =
      are.full
      ∙ same_counts waits_full is_full_wait b.schedule.states b.machine.waits as_long
      (λ p below.
      let there : p < length b.tables.instances = let long = step.processes in omega
      (arith, long, below) in
      on_full (end_in b.machine p) (wait_in b.machine p) (state_at b.schedule.states p)
      (nobody_at_end p there) (step.states p there))
      ∙ ap (count_by is_full_wait)
      (same_waits b.tables network b.history b.machine step.run)

-- ---- growths

begins : (B rest : List Event) (e : Event) → IsPrefix (B ++ e ∷ []) (B ++ e ∷ rest)
begins [] rest e = (refl, tt)
begins (x ∷ B) rest e = (refl, begins B rest e)

growth_follows : (b : Book) → IsBook b → (B rest : List Event) (e : Event) → b.history ≡ B ++ e ∷ rest
    → MayFollow b.tables B e
growth_follows b book B rest e is =
    ((Legal-exactly b.tables B e).0
    (Legal-prefix b.tables (B ++ e ∷ []) (B ++ e ∷ rest) (begins B rest e)
    (subst (λ H. Legal b.tables H) is book.kept.in_step.run.legal))).1

pub owed_then : (b : Book) → IsBook b → (B rest : List Event) (p d n : ℕ)
    → b.history ≡ B ++ event.Grow p d n ∷ rest → OwesGrowth b.tables B p d
owed_then b book B rest p d n is = (growth_follows b book B rest (event.Grow p d n) is).due

-- the capacity that it names
pub told_then : (b : Book) → IsBook b → (B rest : List Event) (p d n : ℕ)
    → b.history ≡ B ++ event.Grow p d n ∷ rest → n ≡ larger_capacity b.tables (capacity_or_zero b.tables B d)
told_then b book B rest p d n is =
    let follows = growth_follows b book B rest (event.Grow p d n) is in
    let same = follows.growth p d follows.due in
    cc
