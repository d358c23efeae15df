-- The words so far are for other ends.
use Rattle.kpn_command_stream.proofs.Common.{◌≢◌, All, take, format_end}
use Rattle.kpn_command_stream.proofs.formats.is_said.Given as goal

abbrev pub invariant-loop-before : goal.invariant-loop-before
invariant-loop-before l = All (λ before. format_end before.now ≢ format_end l.word) (take l.before-index l.words)
