use Rattle.kpn_history.specs.declared.keeping.Keeping.TheVariants.{All}
use Rattle.check_pool.proofs.endings.a_worker_tells_why_it_ends.Given as goal

abbrev pub ghosts-ends_alone-J-Job : goal.ghosts-ends_alone-J-Job
ghosts-ends_alone-J-Job g a = record { network = a.network.now; keeping = All }

abbrev pub ghosts-ends_alone-J-Ledger : goal.ghosts-ends_alone-J-Ledger
ghosts-ends_alone-J-Ledger g a = record { name = a.blank.name; parts = a.blank.parts }
