-- What is put so far, and the instances still to come, are all instances.
use Rattle.kpn_text.proofs.Common.{◌≡◌, ◌++◌, List, ℕ, drop, paired, instance_named, all_text, network_item_text}
use Rattle.kpn_text.proofs.networks.instances.Given as goal

abbrev pub invariant-loop-p : goal.invariant-loop-p
invariant-loop-p l =
    (more : List ℕ)
    → l.out.items
    ++ all_text network_item_text
    (paired (instance_named l.names) (drop l.p l.names.instances) (drop l.p l.network.instances)) more
    ≡ l.initial.out.items
    ++ all_text network_item_text (paired (instance_named l.names) l.names.instances l.network.instances) more
