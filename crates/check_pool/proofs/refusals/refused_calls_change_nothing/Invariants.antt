use Rattle.kpn_history.specs.declared.keeping.Keeping.TheVariants.{All}
use Rattle.check_pool.proofs.refusals.refused_calls_change_nothing.Given as goal

abbrev pub ghosts-opens-J-Job : goal.ghosts-opens-J-Job
ghosts-opens-J-Job g a = record { network = a.network.now; keeping = All }

abbrev pub ghosts-opens-J-Ledger : goal.ghosts-opens-J-Ledger
ghosts-opens-J-Ledger g a = record { name = a.blank.name; parts = a.blank.parts }

abbrev pub ghosts-is_fed-J-Job : goal.ghosts-is_fed-J-Job
ghosts-is_fed-J-Job g a = record { network = a.network.now; keeping = All }

abbrev pub ghosts-is_fed-J-Ledger : goal.ghosts-is_fed-J-Ledger
ghosts-is_fed-J-Ledger g a = record { name = a.blank.name; parts = a.blank.parts }

abbrev pub ghosts-is_poured-J-Job : goal.ghosts-is_poured-J-Job
ghosts-is_poured-J-Job g a = record { network = a.network.now; keeping = All }

abbrev pub ghosts-is_poured-J-Ledger : goal.ghosts-is_poured-J-Ledger
ghosts-is_poured-J-Ledger g a = record { name = a.blank.name; parts = a.blank.parts }

abbrev pub ghosts-is_gathered-J-Job : goal.ghosts-is_gathered-J-Job
ghosts-is_gathered-J-Job g a = record { network = a.network.now; keeping = All }

abbrev pub ghosts-is_gathered-J-Ledger : goal.ghosts-is_gathered-J-Ledger
ghosts-is_gathered-J-Ledger g a = record { name = a.blank.name; parts = a.blank.parts }
