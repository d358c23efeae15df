use Rattle.kpn_history.specs.declared.keeping.Keeping.TheVariants.{All}
use Rattle.check_pool.proofs.batching.refutes_batches_in_another_order.Given as goal

abbrev pub ghosts-ends_twice-J-Job : goal.ghosts-ends_twice-J-Job
ghosts-ends_twice-J-Job g a = record { network = a.network.now; keeping = All }

abbrev pub ghosts-ends_twice-J-Ledger : goal.ghosts-ends_twice-J-Ledger
ghosts-ends_twice-J-Ledger g a = record { name = a.blank.name; parts = a.blank.parts }
