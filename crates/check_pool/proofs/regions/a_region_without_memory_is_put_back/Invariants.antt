use Rattle.kpn_history.specs.declared.keeping.Keeping.TheVariants.{All}
use Rattle.check_pool.proofs.regions.a_region_without_memory_is_put_back.Given as goal

abbrev pub ghosts-refused_in-J-Job : goal.ghosts-refused_in-J-Job
ghosts-refused_in-J-Job g a = record { network = a.network.now; keeping = All }

abbrev pub ghosts-refused_in-J-Ledger : goal.ghosts-refused_in-J-Ledger
ghosts-refused_in-J-Ledger g a = record { name = a.blank.name; parts = a.blank.parts }
