-- Plain tests of final runs.
use Rattle.check_histories.proofs.Common.{◌≡◌, ℕ, zero, suc, true, List, [], refl, subst, false≢true, IsPrefix, Tables, channel_at, is_source, Family, IsPrefixOnSources, Event, fed, IsFedFrom, is_settled, is_settled-true}
use Rattle.kpn_history.specs.OneEnd.{IsRunFrom, IsFinalRun}
use Rattle.kpn_history.proofs.Complete.{IsFedFrom-fed}
use Rattle.check_histories.specs.Networks.{copy_network, resolved_network}
use Rattle.check_histories.specs.Runs.{copy_run, left_after_one_run, early_close_run}
use Rattle.check_histories.proofs.GrowthTests.{owes_none, owes_none-true}
use Rattle.check_histories.proofs.NetworkTests.{network-true}
use Rattle.check_histories.proofs.Passing.{passes, passes-legal}

pub run_from : (t : Tables) (given : Family) (n : ℕ) (H : List Event) → passes t n H ≡ true → IsFedFrom t H given
    → IsRunFrom t given H
run_from t given n H passed fed = record { legal = passes-legal t n H passed; fed = fed }

pub final_run : (t : Tables) (given : Family) (n : ℕ) (H : List Event) → passes t n H ≡ true → is_settled t H ≡ true
    → owes_none t H ≡ true → IsFedFrom t H given → IsFinalRun t given H
final_run t given n H passed settled none fed =
    record {
      run = run_from t given n H passed fed;
      settled = is_settled-true t H settled;
      nothing_owed = λ p d. owes_none-true t H p d none;
    }

-- a network without sources is fed from no lists
no_source : (c : ℕ) → is_source (channel_at resolved_network c) ≡ true → ⊥
unfolding resolved_network
no_source zero is = false≢true is
no_source (suc zero) is = false≢true is
no_source (suc (suc zero)) is = false≢true is
no_source (suc (suc (suc c))) is = false≢true is

pub fed_nothing : (H : List Event) → IsFedFrom resolved_network H (λ c. [])
fed_nothing H =
    record {
      begun = record { each = λ c source. absurd (no_source c source) };
      whole = λ c source closed. absurd (no_source c source);
    }

-- the same lists
fed_alike : (c : ℕ) → fed copy_network left_after_one_run c ≡ fed copy_network copy_run c
unfolding copy_network copy_run left_after_one_run
fed_alike zero = refl
fed_alike (suc zero) = refl
fed_alike (suc (suc c)) = refl

pub copy_fed : IsFedFrom copy_network copy_run (fed copy_network copy_run)
unfolding copy_network copy_run
copy_fed = IsFedFrom-fed copy_network (network-true copy_network refl refl) copy_run (passes-legal copy_network 6 copy_run refl)

pub left_fed : IsFedFrom copy_network left_after_one_run (fed copy_network copy_run)
unfolding copy_network left_after_one_run
left_fed =
    let same : fed copy_network left_after_one_run ≡ fed copy_network copy_run = λ i c. fed_alike c i in
    subst (IsFedFrom copy_network left_after_one_run) same
    (IsFedFrom-fed copy_network (network-true copy_network refl refl) left_after_one_run
    (passes-legal copy_network 6 left_after_one_run refl))

-- nothing was fed, which begins each list
nothing : (c : ℕ) → IsPrefix (fed copy_network early_close_run c) (fed copy_network copy_run c)
unfolding copy_network early_close_run
nothing zero = tt
nothing (suc zero) = tt
nothing (suc (suc c)) = tt

pub fed_early : IsPrefixOnSources copy_network (fed copy_network early_close_run) (fed copy_network copy_run)
fed_early = record { each = λ c source. nothing c }
