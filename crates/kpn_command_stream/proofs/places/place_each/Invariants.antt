-- The places so far.
use Rattle.kpn_command_stream.proofs.Common.{map, ArePlaced}
use Rattle.kpn_command_stream.proofs.places.place_each.Given as goal

abbrev pub invariant-loop-number : goal.invariant-loop-number
invariant-loop-number l =
    ArePlaced l.document l.named (map (λ word. word.now) l.formats) l.channels l.number l.places.items
