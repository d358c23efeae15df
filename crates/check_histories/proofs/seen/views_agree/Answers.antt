use Rattle.check_histories.proofs.Common.{slice_index_or, ℕ, zero, suc, ◌<◌, take, refl, lit<, arith}
use Rattle.std.proofs.lemmas.List.Elements.{Contains-get_or}
use Rattle.kpn_history.specs.declared.event.How.TheVariants as how
use Rattle.kpn_history.specs.declared.event.Event.TheVariants as event
use Rattle.kpn_history.specs.declared.state.State.TheVariants.{Ready}
use Rattle.kpn_history.specs.Views.{IsStateOf}
use Rattle.check_histories.specs.Networks.{copy_network, two_network}
use Rattle.check_histories.specs.Runs.{two_run}
use Rattle.check_histories.specs.Views.{fed_closed_left, fed_closed_left_view, two_waiting_view, two_ended_view}
use Rattle.check_histories.proofs.seen.views_agree.Goals as goal

copy_states : (p : ℕ) → p < 1
    → IsStateOf copy_network fed_closed_left p (slice_index_or fed_closed_left_view.states p Ready)
unfolding copy_network fed_closed_left fed_closed_left_view
copy_states zero h = (refl, refl)
copy_states (suc p) h = absurd (omega arith)

pub returns-clause-fed_closed_left : goal.returns-clause-fed_closed_left
unfolding copy_network fed_closed_left fed_closed_left_view
returns-clause-fed_closed_left c = record {
  journals = refl;
  read = refl;
  caps = refl;
  retired = refl;
  processes = refl;
  states = copy_states;
  counts = record { ready = refl; held = refl; empty = refl; full = refl; ended = refl };
}

waiting_states : (p : ℕ) → p < 2
    → IsStateOf two_network (take 3 two_run) p (slice_index_or two_waiting_view.states p Ready)
unfolding two_network two_run two_waiting_view
waiting_states zero h = (refl, refl)
waiting_states (suc zero) h = (refl, refl)
waiting_states (suc (suc p)) h = absurd (omega arith)

pub returns-clause-waiting : goal.returns-clause-waiting
unfolding two_network two_run two_waiting_view
returns-clause-waiting c = record {
  journals = refl;
  read = refl;
  caps = refl;
  retired = refl;
  processes = refl;
  states = waiting_states;
  counts = record { ready = refl; held = refl; empty = refl; full = refl; ended = refl };
}

ended_states : (p : ℕ) → p < 2 → IsStateOf two_network two_run p (slice_index_or two_ended_view.states p Ready)
unfolding two_network two_run two_ended_view
ended_states zero h = Contains-get_or two_run 6 (event.Ended 0 how.Done) (lit< tt)
ended_states (suc zero) h = Contains-get_or two_run 12 (event.Ended 1 how.Done) (lit< tt)
ended_states (suc (suc p)) h = absurd (omega arith)

pub returns-clause-ended : goal.returns-clause-ended
unfolding two_network two_run two_ended_view
returns-clause-ended c = record {
  journals = refl;
  read = refl;
  caps = refl;
  retired = refl;
  processes = refl;
  states = ended_states;
  counts = record { ready = refl; held = refl; empty = refl; full = refl; ended = refl };
}
