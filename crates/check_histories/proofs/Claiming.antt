-- What follows from the plain tests for worked histories.
use Rattle.check_histories.proofs.Common.{list_all, ◌≡◌, ◌≢◌, ℕ, suc, true, List, [], ◌∷◌, ◌++◌, take, None, subst, Tables, first_network_fault, Event, Grow, MayFollow, Legal, growth_after, is_quiet, is_quiet-true, is_ended, is_ended-true, Legal-last}
use Rattle.kpn_net.specs.declared.tables.NetworkSize.TheVariants as size
use Rattle.check_histories.specs.Claims.{RunsToItsEnd, BreaksAt}
use Rattle.check_histories.proofs.GrowthTests.{grows, grows-owed, owes_none, owes_none-true}
use Rattle.check_histories.proofs.NetworkTests.{is_program, network-true}
use Rattle.check_histories.proofs.Passing.{passes, passes-legal}

-- each loop has n turns

pub runs_to_its_end : (t : Tables) (n : ℕ) (H : List Event) → list_all is_program t.programs ≡ true
    → first_network_fault size.Large t ≡ None → passes t n H ≡ true → is_quiet t H ≡ true → is_ended t H ≡ true → RunsToItsEnd t H
runs_to_its_end t n H programs sound passed quiet ended = record {
  ended = record {
    network = network-true t programs sound;
    legal = passes-legal t n H passed;
    stop = is_ended-true t H ended;
  };
  quiet = is_quiet-true t H quiet;
}

pub breaks_at : (t : Tables) (n : ℕ) (H : List Event) (k : ℕ) → passes t n (take k H) ≡ true
    → (Legal t (take (suc k) H) → ⊥) → BreaksAt t H k
breaks_at t n H k passed wrong = record { before = passes-legal t n (take k H) passed; after = wrong }

-- event k may not follow
pub breaks_by : (t : Tables) (n : ℕ) (H : List Event) (k : ℕ) (event : Event) → passes t n (take k H) ≡ true
    → take (suc k) H ≡ take k H ++ event ∷ [] → (MayFollow t (take k H) event → ⊥) → BreaksAt t H k
breaks_by t n H k event passed last wrong =
    breaks_at t n H k passed (λ legal. wrong (Legal-last t (take k H) event (subst (Legal t) last legal)))

-- event k is a growth, and none is owed
pub breaks_by_growth : (t : Tables) (n : ℕ) (H : List Event) (k p d cap : ℕ) → passes t n (take k H) ≡ true
    → take (suc k) H ≡ take k H ++ Grow p d cap ∷ [] → owes_none t (take k H) ≡ true → BreaksAt t H k
breaks_by_growth t n H k p d cap passed last none =
    breaks_by t n H k (Grow p d cap) passed last (λ follows. owes_none-true t (take k H) p d none follows.due)

-- the growth of d for p is owed, and event k is not that
pub breaks_owing : (t : Tables) (n : ℕ) (H : List Event) (k p d : ℕ) (event : Event) → passes t n (take k H) ≡ true
    → take (suc k) H ≡ take k H ++ event ∷ [] → grows t (take k H) p d ≡ true
    → event ≢ growth_after t (take k H) p d → BreaksAt t H k
breaks_owing t n H k p d event passed last owes differs =
    breaks_by t n H k event passed last (λ follows.
    differs (follows.growth p d (grows-owed t (take k H) p d owes)))
