use Rattle.kpn_pool.proofs.beside.run_beside.Given as goal

abbrev pub ghosts-run_job-J-Job : goal.ghosts-run_job-J-Job
ghosts-run_job-J-Job g a = record { network = a.network.now; keeping = a.plan.now.keeping }

abbrev pub ghosts-run_job-J-Ledger : goal.ghosts-run_job-J-Ledger
ghosts-run_job-J-Ledger g a = record { name = a.blank.name; parts = a.blank.parts }
