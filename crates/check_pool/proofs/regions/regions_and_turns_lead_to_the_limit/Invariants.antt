use Rattle.kpn_history.specs.declared.keeping.Keeping.TheVariants.{All}
use Rattle.check_pool.proofs.regions.regions_and_turns_lead_to_the_limit.Given as goal

abbrev pub ghosts-comes_to_the_limit-J-Job : goal.ghosts-comes_to_the_limit-J-Job
ghosts-comes_to_the_limit-J-Job g a = record { network = a.network.now; keeping = All }

abbrev pub ghosts-comes_to_the_limit-J-Ledger : goal.ghosts-comes_to_the_limit-J-Ledger
ghosts-comes_to_the_limit-J-Ledger g a = record { name = a.blank.name; parts = a.blank.parts }
