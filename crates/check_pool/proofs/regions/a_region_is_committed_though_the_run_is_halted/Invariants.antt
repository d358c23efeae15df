use Rattle.kpn_history.specs.declared.keeping.Keeping.TheVariants.{All}
use Rattle.check_pool.proofs.regions.a_region_is_committed_though_the_run_is_halted.Given as goal

abbrev pub ghosts-commits_though_halted-J-Job : goal.ghosts-commits_though_halted-J-Job
ghosts-commits_though_halted-J-Job g a = record { network = a.network.now; keeping = All }

abbrev pub ghosts-commits_though_halted-J-Ledger : goal.ghosts-commits_though_halted-J-Ledger
ghosts-commits_though_halted-J-Ledger g a = record { name = a.blank.name; parts = a.blank.parts }
