-- The first sinks were told to hand on what they kept, and for each there was room to list what it lost.
use Rattle.kpn_command_stream.proofs.Common.{◌≡◌, ◌≤◌, length, map, take, vec_capacity, HandedOn, flushes_of}
use Rattle.kpn_command_stream.proofs.running.flush_each.Given as goal

abbrev pub invariant-loop-i : goal.invariant-loop-i
invariant-loop-i g l =
    HandedOn (flushes_of g.O.Write.contents g.G.Write.contents) l.fn.sinks
    (map (λ place. place.channel) (take l.i l.places.sinks.items))
    l.lost.items l.sinks
    × (length l.lost.items ≤ l.i) × (vec_capacity l.lost ≡ vec_capacity l.fn.lost)
