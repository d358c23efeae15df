use Rattle.std.proofs.Common.{lit<}
use Rattle.check_histories.specs.Networks.{two_network}
use Rattle.check_histories.specs.Runs.{two_run}
use Rattle.check_histories.specs.Views.{stale_waits_view, stale_counts_view}
use Rattle.check_histories.proofs.seen.stale_views_do_not_agree.Goals as goal

pub returns-clause-waits : goal.returns-clause-waits
unfolding two_network two_run stale_waits_view
returns-clause-waits c agrees = let waits = (agrees.states 0 (lit< tt)).1 in cc

pub returns-clause-counts : goal.returns-clause-counts
unfolding two_network two_run stale_counts_view
returns-clause-counts c agrees = let full = agrees.counts.full in cc
