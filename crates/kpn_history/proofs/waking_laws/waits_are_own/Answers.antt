use Rattle.kpn_history.proofs.EarlierWaits.{wait_at-waits_of}
use Rattle.kpn_history.proofs.OwnWaits.{are_waits, wait_on_empty, wait_on_full}
use Rattle.kpn_history.proofs.waking_laws.waits_are_own.Goals as goal

pub returns-clause-table : goal.returns-clause-table
returns-clause-table c = are_waits

pub returns-clause-entry : goal.returns-clause-entry
returns-clause-entry c = wait_at-waits_of

pub returns-clause-empty : goal.returns-clause-empty
returns-clause-empty c = wait_on_empty

pub returns-clause-full : goal.returns-clause-full
returns-clause-full c = wait_on_full
