-- A view that is copied from a book agrees with its history.
use Rattle.kpn_book.proofs.Common.{◌≡◌, ℕ, ◌<◌, false, not, List, [], ◌∷◌, None, length, map, get_or, refl, sym, ap, ◌∙◌, subst, arith, length-range_with_len, get_or-range_with_len, Wait, Nobody, Empty, Full, channel_numbers, Contains-first, Contains-later, State, View, has_ended, written_on, read_on, capacity_after, reader_lives, wait_of, IsStateOf, AreCounts, Agrees, channel_in, wait_in, end_in, IsEndOf, state_at, Book, IsInStep, IsStateBy}
use Rattle.std.specs.List.{Contains, range_with_len}
use Rattle.kpn_history.specs.declared.state.State.TheVariants.{Ready, Held, WaitsEmpty, WaitsFull, Ended}

-- functions that agree on all members give the same lists
pub same_list : {A : Type 0} (f g : ℕ → A) (xs : List ℕ) → ((c : ℕ) → Contains xs c → f c ≡ g c) → map f xs ≡ map g xs
same_list f g [] same = refl
same_list f g (x ∷ xs) same =
    ap (λ y. y ∷ map f xs) (same x (Contains-first x xs))
    ∙ ap (λ ys. g x ∷ ys) (same_list f g xs (λ c h. same c (Contains-later x xs c h)))

pub number_below : (n c : ℕ) → Contains (range_with_len 0 n) c → c < n
number_below n c (k, below, e) =
    let long = length-range_with_len 0 n in
    let at = get_or-range_with_len 0 n k c (omega arith) in
    omega (arith, e)

module _ (b : Book) (step : IsInStep b) where
  lives : (p : ℕ) → p < length b.tables.instances → end_in b.machine p ≡ None → has_ended b.history p ≡ false
  lives p below none = subst (IsEndOf b.history p) none (step.run.leads.ends p below)

  waits : (p : ℕ) → p < length b.tables.instances → (wait : Wait) → wait_in b.machine p ≡ wait
      → wait_of b.tables b.history p ≡ wait
  waits p below wait is = sym (step.run.leads.waits p below) ∙ is

  -- the state of a process by the history
  pub state_of : (p : ℕ) → p < length b.tables.instances → (state : State)
      → IsStateBy (end_in b.machine p) (wait_in b.machine p) state → IsStateOf b.tables b.history p state
  state_of p below Ready by = (lives p below by.0, waits p below Nobody by.1)
  state_of p below Held by = (lives p below by.0, waits p below Nobody by.1)
  state_of p below (WaitsEmpty c) by = (lives p below by.0, waits p below (Empty c) by.1)
  state_of p below (WaitsFull c) by = (lives p below by.0, waits p below (Full c) by.1)
  state_of p below (Ended how) by = subst (IsEndOf b.history p) by (step.run.leads.ends p below)

  -- a list for each channel, by the history
  of_channels : {A : Type 0} (f g : ℕ → A) → ((c : ℕ) → c < length b.tables.channels → f c ≡ g c)
      → map f (channel_numbers b.tables) ≡ map g (channel_numbers b.tables)
  of_channels f g same =
      same_list f g (channel_numbers b.tables) (λ c h. same c (number_below (length b.tables.channels) c h))

  pub Agrees-copied : {A : Type 0} (view : View A)
      → view.journals ≡ map (λ c. (channel_in b.machine c).journal) (channel_numbers b.tables)
      → view.read ≡ map (λ c. (channel_in b.machine c).read) (channel_numbers b.tables)
      → view.caps ≡ map (λ c. (channel_in b.machine c).capacity) (channel_numbers b.tables)
      → view.retired ≡ map (λ c. (channel_in b.machine c).is_retired) (channel_numbers b.tables)
      → view.states ≡ b.schedule.states → AreCounts view.states view.counts → Agrees b.tables b.history view
  Agrees-copied view journals read caps retired states counts = record {
    journals =
        journals
        ∙ of_channels (λ c. (channel_in b.machine c).journal) (written_on b.history)
        (λ c below. (step.run.leads.channels c below).journal);
    read =
        read
        ∙ of_channels (λ c. (channel_in b.machine c).read) (λ c. length (read_on b.history c))
        (λ c below. (step.run.leads.channels c below).read);
    caps =
        caps
        ∙ of_channels (λ c. (channel_in b.machine c).capacity) (capacity_after b.tables b.history)
        (λ c below. (step.run.leads.channels c below).capacity);
    retired =
        retired
        ∙ of_channels (λ c. (channel_in b.machine c).is_retired) (λ c. not (reader_lives b.tables b.history c))
        (λ c below. (step.run.leads.channels c below).retired);
    processes = ap length states ∙ step.processes;
    states = λ p below.
        subst (λ xs. IsStateOf b.tables b.history p (get_or xs p Ready)) (sym states)
        (state_of p below (state_at b.schedule.states p) (step.states p below));
    counts = counts;
  }

  -- for this many channels
  pub Agrees-of : {A : Type 0} (channels : ℕ) → channels ≡ length b.tables.channels → (view : View A)
      → view.journals ≡ map (λ c. (channel_in b.machine c).journal) (range_with_len 0 channels)
      → view.read ≡ map (λ c. (channel_in b.machine c).read) (range_with_len 0 channels)
      → view.caps ≡ map (λ c. (channel_in b.machine c).capacity) (range_with_len 0 channels)
      → view.retired ≡ map (λ c. (channel_in b.machine c).is_retired) (range_with_len 0 channels)
      → view.states ≡ b.schedule.states → AreCounts view.states view.counts → Agrees b.tables b.history view
  Agrees-of channels all view journals read caps retired states counts =
      Agrees-copied view (journals ∙ ap
      (λ n. map (λ c. (channel_in b.machine c).journal) (range_with_len 0 n)) all)
      (read ∙ ap (λ n. map (λ c. (channel_in b.machine c).read) (range_with_len 0 n)) all)
      (caps ∙ ap (λ n. map (λ c. (channel_in b.machine c).capacity) (range_with_len 0 n)) all)
      (retired ∙ ap (λ n. map (λ c. (channel_in b.machine c).is_retired) (range_with_len 0 n)) all) states counts
