use Rattle.std.proofs.Common.{sym, ◌∙◌, arith}
use Rattle.kpn_machine.proofs.Verdicts.{outside_yes, outside_no}
use Rattle.kpn_machine.proofs.machine.Machine.is_outside_done.Goals as goal

pub returns-then-awaits_outside : goal.returns-then-awaits_outside
returns-then-awaits_outside g c =
    outside_no c.args.network.now c.args.self.now c.loop-c.c (let n = c.channels-c-end.ensures in omega arith)
    (sym c.awaits_outside.ensures ∙ c.if-awaits_outside.true)

pub returns : goal.returns
returns g c =
    outside_yes c.args.network.now c.args.self.now
    (λ d there. c.loop-c.invariant d (let n = c.channels-c-end.ensures in omega arith))
