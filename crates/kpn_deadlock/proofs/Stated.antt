-- The states of processes say what the processes wait for.
use Rattle.kpn_deadlock.proofs.Common.{◌≡◌, ℕ, suc, ◌+◌, ◌<◌, List, [], ◌∷◌, ◌++◌, length, map, take, get_or, refl, sym, ap, ◌∙◌, subst, arith, Wait, Tables, IsNetwork, Event, Ready, Held, WaitsEmpty, WaitsFull, Ended, wait_of, waits_of, Legal, AreStatesOf, wait_of_state}
use Rattle.std.specs.List.{range_with_len}
use Rattle.std.proofs.lemmas.List.{map-append, take_more}
use Rattle.kpn_history.specs.declared.state.State.{State}
use Rattle.kpn_history.specs.Views.{IsStateOf}
use Rattle.kpn_history.proofs.EndsOnce.{ended_by}
use Rattle.kpn_history.proofs.WaitsAfter.{ended_is_not_blocked}

-- one state more
pub states_more : (states : List State) (p : ℕ) (d : State) (wait : Wait) (before after : List Wait) → p < length states
    → before ≡ map wait_of_state (take p states) → wait ≡ wait_of_state (get_or states p d) → after ≡ before ++ wait ∷ []
    → after ≡ map wait_of_state (take (p + 1) states)
states_more states p d wait before after below so_far is more =
    more ∙ ap (λ xs. xs ++ wait ∷ []) so_far
    ∙ ap (λ x. map wait_of_state (take p states) ++ x ∷ []) is
    ∙ sym (map-append wait_of_state (take p states) (get_or states p d ∷ []))
    ∙ ap (map wait_of_state) (sym (take_more states p d below))

state_waits : (t : Tables) → IsNetwork t → (H : List Event) → Legal t H → (p : ℕ) (state : State)
    → IsStateOf t H p state → wait_of_state state ≡ wait_of t H p
state_waits t network H legal p Ready is = sym is.1
state_waits t network H legal p Held is = sym is.1
state_waits t network H legal p (WaitsEmpty c) is = sym is.1
state_waits t network H legal p (WaitsFull c) is = sym is.1
state_waits t network H legal p (Ended how) is = sym (ended_is_not_blocked t network p H legal (ended_by H p how is))

by_number : (g : ℕ → Wait) (states : List State) (a : ℕ)
    → ((k : ℕ) → k < length states → wait_of_state (get_or states k Ready) ≡ g (a + k))
    → map wait_of_state states ≡ map g (range_with_len a (length states))
by_number g [] a each = refl
by_number g (state ∷ states) a each =
    let first : wait_of_state state ≡ g a = each 0 (omega arith) ∙ ap g (omega arith) in
    ap (λ x. x ∷ map wait_of_state states) first
    ∙ ap (λ xs. g a ∷ xs)
    (by_number g states (a + 1) (λ k below. each (suc k) (omega arith) ∙ ap g (omega arith)))

pub waits_are : (t : Tables) → IsNetwork t → (H : List Event) → Legal t H → (states : List State)
    → AreStatesOf t H states → map wait_of_state states ≡ waits_of t H
waits_are t network H legal states are =
    by_number (wait_of t H) states 0
    (λ k below. state_waits t network H legal k (get_or states k Ready)
    (are.each k (subst (λ n. k < n) are.one_each below)) ∙ ap (wait_of t H) (omega arith))
    ∙ ap (λ n. map (wait_of t H) (range_with_len 0 n)) are.one_each
