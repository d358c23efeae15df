use Rattle.std.proofs.Common.{refl}
use Rattle.check_histories.specs.Networks.{ended_reader_network}
use Rattle.check_histories.specs.Runs.{ended_reader_run, freed_writer_run}
use Rattle.check_histories.proofs.Claiming.{runs_to_its_end}
use Rattle.check_histories.proofs.worked.a_writer_outlives_its_reader.Goals as goal

pub returns-clause-run : goal.returns-clause-run
unfolding ended_reader_network ended_reader_run
returns-clause-run c = runs_to_its_end ended_reader_network 1 ended_reader_run refl refl refl refl refl

pub returns-clause-freed : goal.returns-clause-freed
unfolding ended_reader_network freed_writer_run
returns-clause-freed c = runs_to_its_end ended_reader_network 1 freed_writer_run refl refl refl refl refl
