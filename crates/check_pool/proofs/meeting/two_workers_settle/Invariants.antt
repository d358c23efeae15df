use Rattle.kpn_history.specs.declared.keeping.Keeping.TheVariants.{All}
use Rattle.check_pool.proofs.meeting.two_workers_settle.Given as goal

abbrev pub ghosts-meet-J-Job : goal.ghosts-meet-J-Job
ghosts-meet-J-Job g a = record { network = a.network.now; keeping = All }

abbrev pub ghosts-meet-J-Ledger : goal.ghosts-meet-J-Ledger
ghosts-meet-J-Ledger g a = record { name = a.blank.name; parts = a.blank.parts }
