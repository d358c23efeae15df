-- The options so far do not name the end.
use Rattle.kpn_command_base.proofs.Common.{◌≡◌, drop, file_for}
use Rattle.kpn_command_base.proofs.sources.file_for.Given as goal

abbrev pub invariant-loop-end : goal.invariant-loop-end
invariant-loop-end l = file_for l.named l.number ≡ file_for (drop l.end-index l.named) l.number
