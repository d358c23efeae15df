use Rattle.kpn_audit.proofs.Common.{[], ◌∷◌, ◌++◌, ap, ◌∙◌, wait_in, one_more}
use Rattle.kpn_audit.proofs.summary.waits.Goals as goal

pub loop-p-preserved : goal.loop-p-preserved
loop-p-preserved g c =
    one_more (wait_in c.args.machine.now) c.loop-p.p c.loop-p.waits.items c.push.new.self.items c.loop-p.invariant
    (c.in_ok-push.ensures.items ∙ ap (λ x. c.loop-p.waits.items ++ x ∷ []) c.wait.ensures)
