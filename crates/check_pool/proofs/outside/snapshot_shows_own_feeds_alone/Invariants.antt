use Rattle.kpn_history.specs.declared.keeping.Keeping.TheVariants.{All}
use Rattle.check_pool.proofs.outside.snapshot_shows_own_feeds_alone.Given as goal

abbrev pub ghosts-copied-J-Job : goal.ghosts-copied-J-Job
ghosts-copied-J-Job g a = record { network = a.network.now; keeping = All }

abbrev pub ghosts-copied-J-Ledger : goal.ghosts-copied-J-Ledger
ghosts-copied-J-Ledger g a = record { name = a.blank.name; parts = a.blank.parts }

abbrev pub ghosts-answered-J-Job : goal.ghosts-answered-J-Job
ghosts-answered-J-Job g a = record { network = a.network.now; keeping = All }

abbrev pub ghosts-answered-J-Ledger : goal.ghosts-answered-J-Ledger
ghosts-answered-J-Ledger g a = record { name = a.blank.name; parts = a.blank.parts }
