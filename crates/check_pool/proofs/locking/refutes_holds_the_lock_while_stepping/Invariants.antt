use Rattle.kpn_history.specs.declared.keeping.Keeping.TheVariants.{All}
use Rattle.check_pool.proofs.locking.refutes_holds_the_lock_while_stepping.Given as goal

abbrev pub ghosts-seen_while_working-J-Job : goal.ghosts-seen_while_working-J-Job
ghosts-seen_while_working-J-Job g a = record { network = a.network.now; keeping = All }

abbrev pub ghosts-seen_while_working-J-Ledger : goal.ghosts-seen_while_working-J-Ledger
ghosts-seen_while_working-J-Ledger g a = record { name = a.blank.name; parts = a.blank.parts }
