-- The rings of a book are those of its history.
use Rattle.kpn_command_stream.proofs.Common.{◌≡◌, ℕ, List, length, sym, ap, ◌∙◌, subst, Tables, Event, AreStatesOf, Book, IsBook, state_at}
use Rattle.kpn_history.specs.declared.state.State.{State}
use Rattle.kpn_history.specs.Waiting.{waits_of}
use Rattle.kpn_history.specs.Legal.{Legal}
use Rattle.kpn_history.specs.Views.{IsStateOf}
use Rattle.kpn_deadlock.specs.Told.{AreRings}
use Rattle.kpn_book.proofs.Standing.{states_now}

pub ringed : (b : Book) → IsBook b → (t : Tables) → t ≡ b.tables → (states : List State) → states ≡ b.schedule.states
    → (told : List (List ℕ))
    → ((H : List Event) → Legal t H → AreStatesOf t H states → AreRings t (waits_of t H) told)
    → AreRings b.tables (waits_of b.tables b.history) told
ringed b book t same states are told rings =
    subst (λ (u : Tables). (H : List Event) → Legal u H → AreStatesOf u H states → AreRings u (waits_of u H) told) same
    rings b.history book.kept.in_step.run.legal
    (record {
      one_each = ap (λ (xs : List State). length xs) are ∙ book.kept.in_step.processes;
      each = λ p below.
          subst (λ (xs : List State). IsStateOf b.tables b.history p (state_at xs p)) (sym are)
          (states_now b book p below);
    })
