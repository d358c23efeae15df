-- The copies so far are the instances so far.
use Rattle.std.proofs.Common.{◌≡◌, take}
use Rattle.kpn_net.proofs.network.copies.copy_instances.Given as goal

abbrev pub invariant-loop-instance : goal.invariant-loop-instance
invariant-loop-instance l = l.copies.items ≡ take l.instance-index l.instances
