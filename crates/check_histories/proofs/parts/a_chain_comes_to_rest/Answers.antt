use Rattle.std.proofs.Common.{refl}
use Rattle.check_histories.specs.Networks.{copy_network}
use Rattle.check_histories.specs.Cuts.{chain_network, chain_cut}
use Rattle.check_histories.specs.Orders.{chain_order, chain_run}
use Rattle.check_histories.proofs.Joining.{joins-true, are_quiet-true, are_delivered-true}
use Rattle.check_histories.proofs.TwoParts.{chain_is, chain_cut_is}
use Rattle.check_histories.proofs.parts.a_chain_comes_to_rest.Goals as goal

pub returns-clause-run : goal.returns-clause-run
unfolding chain_network chain_cut chain_order copy_network
returns-clause-run c =
    record {
      network = chain_is;
      cut_up = chain_cut_is;
      joined = joins-true chain_network chain_cut 4 chain_order refl refl;
      quiet = are_quiet-true chain_cut chain_order refl;
      delivered = are_delivered-true chain_network chain_cut chain_order refl;
    }

pub returns-clause-whole : goal.returns-clause-whole
unfolding chain_network chain_cut chain_order chain_run
returns-clause-whole c = refl

pub returns-clause-sink : goal.returns-clause-sink
unfolding chain_network chain_cut chain_order
returns-clause-sink c = refl
