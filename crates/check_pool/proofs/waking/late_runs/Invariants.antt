use Rattle.kpn_history.specs.declared.keeping.Keeping.TheVariants.{All}
use Rattle.check_pool.proofs.waking.late_runs.Given as goal

abbrev pub ghosts-comes_to-J-Job : goal.ghosts-comes_to-J-Job
ghosts-comes_to-J-Job g a = record { network = a.network.now; keeping = All }

abbrev pub ghosts-comes_to-J-Ledger : goal.ghosts-comes_to-J-Ledger
ghosts-comes_to-J-Ledger g a = record { name = a.blank.name; parts = a.blank.parts }
