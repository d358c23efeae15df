-- The remaining names lead from here to the same as all of them.
use Rattle.std.proofs.Common.{◌≡◌, drop, fold}
use Rattle.kpn_command_explain.specs.Names as spec
use Rattle.kpn_command_explain.proofs.names.last_before.Given as goal

abbrev pub invariant-loop-start : goal.invariant-loop-start
invariant-loop-start l =
    fold (spec.later l.text l.name l.bound) l.found (drop l.start-index l.starts)
    ≡ spec.last_before l.text l.name l.bound l.starts
