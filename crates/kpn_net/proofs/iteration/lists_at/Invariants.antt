use Rattle.std.proofs.Common.{◌≡◌, [], map, take, slice_index_or}
use Rattle.kpn_net.proofs.iteration.lists_at.Given as goal

abbrev pub invariant-loop-channel : goal.invariant-loop-channel
invariant-loop-channel l =
    l.copies.items ≡ map (λ c. slice_index_or l.lists c []) (take l.channel-index l.channels)
