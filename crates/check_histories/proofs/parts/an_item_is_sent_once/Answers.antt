use Rattle.check_histories.proofs.Common.{refl, IsPrefix-refl}
use Rattle.check_histories.specs.Networks.{copy_network}
use Rattle.check_histories.specs.Cuts.{chain_network, chain_cut}
use Rattle.check_histories.specs.Orders.{twice_order}
use Rattle.check_histories.proofs.Joining.{are_legal-true}
use Rattle.check_histories.proofs.parts.an_item_is_sent_once.Goals as goal

pub returns-clause-legal : goal.returns-clause-legal
unfolding chain_network chain_cut twice_order copy_network
returns-clause-legal c = are_legal-true chain_cut 3 twice_order refl

-- of two items that the second part was fed the first put one
pub returns-clause-not_joined : goal.returns-clause-not_joined
unfolding chain_network chain_cut twice_order copy_network
returns-clause-not_joined c = λ joined.
    (joined.sent twice_order (IsPrefix-refl twice_order) 1 0 (record { source = refl; cut = refl })).1
