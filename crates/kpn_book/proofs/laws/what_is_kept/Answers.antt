use Rattle.kpn_book.proofs.Remembered.{all_much, happens_much, commits_much, steps_much, runs_much, in_vain_much, claims_much, region_much}
use Rattle.kpn_book.proofs.laws.what_is_kept.Goals as goal

pub returns-clause-appended : goal.returns-clause-appended
returns-clause-appended c = all_much

pub returns-clause-happens : goal.returns-clause-happens
returns-clause-happens c = happens_much

pub returns-clause-commits : goal.returns-clause-commits
returns-clause-commits c = commits_much

pub returns-clause-steps : goal.returns-clause-steps
returns-clause-steps c = steps_much

pub returns-clause-rows : goal.returns-clause-rows
returns-clause-rows c = runs_much

pub returns-clause-in_vain : goal.returns-clause-in_vain
returns-clause-in_vain c = in_vain_much

pub returns-clause-claims : goal.returns-clause-claims
returns-clause-claims c = claims_much

pub returns-clause-regions : goal.returns-clause-regions
returns-clause-regions c = region_much
