-- Views that agree with two runs that end alike are the same, where no sink was left.
use Rattle.kpn_history.proofs.Common.{◌≡◌, ℕ, ◌<◌, Bool, true, false, not, List, length, map, get_or, count_by, refl, sym, ap, ◌∙◌, subst, inl, inr, both_ways, false_from_ne_true, false≢true, ext_get_or, End, Process, Source, Sink, Tables, reader_of, channel_numbers, Event, State, View, has_ended, written_on, read_on, is_left, lives, reader_lives, capacity_after, Legal, HaveStopped, IsStateOf, is_stopped, is_ready, is_held, waits_empty, waits_full, is_ended, Agrees, EndAlike}
use Rattle.kpn_history.specs.declared.state.State.TheVariants.{Ready, Held, WaitsEmpty, WaitsFull, Ended}
use Rattle.kpn_history.proofs.OwedSets.{same_capacity}
use Rattle.kpn_history.proofs.SameEnds.{EndAlike-sym, same_waits, same_ended}
use Rattle.kpn_history.proofs.States.{stopped_states, one_state}

-- two tests that hold together are one
same_test : (a b : Bool) → (a ≡ true → b ≡ true) → (b ≡ true → a ≡ true) → a ≡ b
same_test true b to from = sym (to refl)
same_test false b to from = sym (false_from_ne_true b (λ is. false≢true (from is)))

module _ {A : Type 0} (t : Tables) (H G : List Event) (legal : Legal t H) (alike : EndAlike t H G)
    (stopped : HaveStopped t H) (view other : View A) (agrees : Agrees t H view) (also : Agrees t G other) where
  one_ended : (p : ℕ) → has_ended H p ≡ has_ended G p
  one_ended p =
      same_test (has_ended H p) (has_ended G p) (same_ended t H G alike p)
      (same_ended t G H (EndAlike-sym t H G alike) p)

  pub same_journals : view.journals ≡ other.journals
  same_journals =
      let same : written_on H ≡ written_on G = λ i c. alike.written c i in
      agrees.journals ∙ ap (λ f. map f (channel_numbers t)) same ∙ sym also.journals

  pub same_caps : view.caps ≡ other.caps
  same_caps =
      let same : capacity_after t H ≡ capacity_after t G = λ i c. same_capacity t H G c (alike.grown c) i in
      agrees.caps ∙ ap (λ f. map f (channel_numbers t)) same ∙ sym also.caps

  -- the state in the second run is a state in the first one
  state_there : (p : ℕ) → p < length t.instances → (s : State) → IsStateOf t G p s → IsStateOf t H p s
  state_there p there Ready is = (one_ended p ∙ is.0, same_waits t H G alike p there ∙ is.1)
  state_there p there Held is = (one_ended p ∙ is.0, same_waits t H G alike p there ∙ is.1)
  state_there p there (WaitsEmpty c) is = (one_ended p ∙ is.0, same_waits t H G alike p there ∙ is.1)
  state_there p there (WaitsFull c) is = (one_ended p ∙ is.0, same_waits t H G alike p there ∙ is.1)
  state_there p there (Ended how) is = (alike.ended p how).1 is

  pub same_states : view.states ≡ other.states
  same_states =
      ext_get_or Ready view.states other.states (agrees.processes ∙ sym also.processes)
      (λ p below.
      let there : p < length t.instances = subst (λ n. p < n) agrees.processes below in
      elim (one_state t H legal p (get_or view.states p Ready) (get_or other.states p Ready)
      (agrees.states p there)
      (state_there p there (get_or other.states p Ready) (also.states p there))) [
        | inl same ↦ same
        | inr go_on ↦
            absurd
            (both_ways (is_stopped (get_or view.states p Ready)) go_on.0
            ((stopped_states t H view agrees).0 stopped p there))
      ])

  pub same_counts : view.counts ≡ other.counts
  same_counts =
      let count : (of : State → Bool) → count_by of view.states ≡ count_by of other.states =
      λ of. ap (count_by of) same_states in
      let ready = agrees.counts.ready ∙ count is_ready ∙ sym also.counts.ready in
      let held = agrees.counts.held ∙ count is_held ∙ sym also.counts.held in
      let empty = agrees.counts.empty ∙ count waits_empty ∙ sym also.counts.empty in
      let full = agrees.counts.full ∙ count waits_full ∙ sym also.counts.full in
      let ended = agrees.counts.ended ∙ count is_ended ∙ sym also.counts.ended in
      λ i. record { ready = ready i; held = held i; empty = empty i; full = full i; ended = ended i }

  -- ---- where no sink was left

  module _ (stays : (c : ℕ) → is_left H c ≡ false) (remains : (c : ℕ) → is_left G c ≡ false) where
    reader_alike : (c : ℕ) (end : End) → lives H c end ≡ lives G c end
    reader_alike c (Process p) = ap not (one_ended p)
    reader_alike c Source = refl
    reader_alike c Sink = ap not (stays c ∙ sym (remains c))

    pub same_view : view ≡ other
    same_view =
        let reads : read_on H ≡ read_on G = λ i c. alike.read c (stays c) (remains c) i in
        let lost : (λ c. not (reader_lives t H c)) ≡ (λ c. not (reader_lives t G c)) =
        λ i c. not (reader_alike c (reader_of t c) i) in
        let read = agrees.read ∙ ap (λ f. map (λ c. length (f c)) (channel_numbers t)) reads ∙ sym also.read in
        let retired = agrees.retired ∙ ap (λ f. map f (channel_numbers t)) lost ∙ sym also.retired in
        λ i. record {
          journals = same_journals i;
          read = read i;
          caps = same_caps i;
          retired = retired i;
          states = same_states i;
          counts = same_counts i;
        }
