use Rattle.kpn_history.specs.declared.keeping.Keeping.TheVariants.{All}
use Rattle.check_pool.proofs.resting.those_that_rest_come_to_ready_work.Given as goal

abbrev pub ghosts-are_held_at_once-J-Job : goal.ghosts-are_held_at_once-J-Job
ghosts-are_held_at_once-J-Job g a = record { network = a.network.now; keeping = All }

abbrev pub ghosts-are_held_at_once-J-Ledger : goal.ghosts-are_held_at_once-J-Ledger
ghosts-are_held_at_once-J-Ledger g a = record { name = a.blank.name; parts = a.blank.parts }
