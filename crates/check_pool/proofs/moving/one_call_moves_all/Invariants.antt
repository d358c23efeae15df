use Rattle.kpn_history.specs.declared.keeping.Keeping.TheVariants.{All}
use Rattle.check_pool.proofs.moving.one_call_moves_all.Given as goal

abbrev pub ghosts-moves_all-J-Job : goal.ghosts-moves_all-J-Job
ghosts-moves_all-J-Job g a = record { network = a.network.now; keeping = All }

abbrev pub ghosts-moves_all-J-Ledger : goal.ghosts-moves_all-J-Ledger
ghosts-moves_all-J-Ledger g a = record { name = a.blank.name; parts = a.blank.parts }
