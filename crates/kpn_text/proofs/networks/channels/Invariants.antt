-- What is put so far, and the channels still to come, are all channels.
use Rattle.kpn_text.proofs.Common.{◌≡◌, ◌++◌, List, ℕ, drop, paired, channel_named, all_text, network_item_text}
use Rattle.kpn_text.proofs.networks.channels.Given as goal

abbrev pub invariant-loop-c : goal.invariant-loop-c
invariant-loop-c l =
    (more : List ℕ)
    → l.out.items
    ++ all_text network_item_text (paired channel_named (drop l.c l.names) (drop l.c l.network.channels)) more
    ≡ l.initial.out.items ++ all_text network_item_text (paired channel_named l.names l.network.channels) more
