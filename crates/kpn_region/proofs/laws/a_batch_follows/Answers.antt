use Rattle.kpn_region.proofs.Joined.{nothing_owed_after, run_after}
use Rattle.kpn_region.proofs.laws.a_batch_follows.Goals as goal

pub returns-clause-run : goal.returns-clause-run
returns-clause-run c t network b tables is H before after run owes agrees joins =
    run_after t network b tables is H before after run owes agrees joins

pub returns-clause-nothing : goal.returns-clause-nothing
returns-clause-nothing c t network b tables is H before run owes agrees =
    nothing_owed_after t network b tables is H before before run owes agrees
