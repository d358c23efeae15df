-- The words so far are for ends, each for others.
use Rattle.kpn_command_stream.proofs.Common.{◌≢◌, All, take, AllPairs, IsForEnd, format_end}
use Rattle.kpn_command_stream.proofs.formats.are_for_ends.Given as goal

abbrev pub invariant-loop-i : goal.invariant-loop-i
invariant-loop-i l =
    All (λ word. IsForEnd l.document word.now) (take l.i l.words)
    × AllPairs (λ word later. format_end word.now ≢ format_end later.now) (take l.i l.words)
