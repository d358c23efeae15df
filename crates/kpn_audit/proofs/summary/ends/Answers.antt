use Rattle.kpn_audit.proofs.Common.{[], ◌∷◌, ◌++◌, ap, ◌∙◌, end_in, one_more}
use Rattle.kpn_audit.proofs.summary.ends.Goals as goal

pub loop-p-preserved : goal.loop-p-preserved
loop-p-preserved g c =
    one_more (end_in c.args.machine.now) c.loop-p.p c.loop-p.ends.items c.push.new.self.items c.loop-p.invariant
    (c.in_ok-push.ensures.items ∙ ap (λ x. c.loop-p.ends.items ++ x ∷ []) c.end_of.ensures)
