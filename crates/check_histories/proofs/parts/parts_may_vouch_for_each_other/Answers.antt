use Rattle.std.proofs.Common.{refl}
use Rattle.check_histories.specs.Networks.{copy_network}
use Rattle.check_histories.specs.Cuts.{ring_network, ring_cut}
use Rattle.check_histories.specs.Orders.{ring_order}
use Rattle.check_histories.proofs.Joining.{are_legal-true, are_quiet-true, are_delivered-true}
use Rattle.check_histories.proofs.TwoParts.{ring_is, ring_cut_is}
use Rattle.check_histories.proofs.RingLeast.{nobody_made, not_joined}
use Rattle.check_histories.proofs.parts.parts_may_vouch_for_each_other.Goals as goal

pub returns-clause-network : goal.returns-clause-network
returns-clause-network c = ring_is

pub returns-clause-cut : goal.returns-clause-cut
returns-clause-cut c = ring_cut_is

pub returns-clause-legal : goal.returns-clause-legal
unfolding ring_network ring_cut ring_order copy_network
returns-clause-legal c = are_legal-true ring_cut 4 ring_order refl

pub returns-clause-quiet : goal.returns-clause-quiet
unfolding ring_network ring_cut ring_order copy_network
returns-clause-quiet c = are_quiet-true ring_cut ring_order refl

pub returns-clause-delivered : goal.returns-clause-delivered
unfolding ring_network ring_cut ring_order copy_network
returns-clause-delivered c = are_delivered-true ring_network ring_cut ring_order refl

pub returns-clause-nobody_made : goal.returns-clause-nobody_made
returns-clause-nobody_made c = nobody_made

pub returns-clause-not_joined : goal.returns-clause-not_joined
returns-clause-not_joined c = not_joined
