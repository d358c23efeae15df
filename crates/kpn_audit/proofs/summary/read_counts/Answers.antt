use Rattle.kpn_audit.proofs.Common.{[], ◌∷◌, ◌++◌, ap, ◌∙◌, channel_in, one_more}
use Rattle.kpn_audit.proofs.summary.read_counts.Goals as goal

pub loop-c-preserved : goal.loop-c-preserved
loop-c-preserved g c =
    one_more (λ d. (channel_in c.args.machine.now d).read) c.loop-c.c c.loop-c.reads.items
    c.push.new.self.items c.loop-c.invariant
    (c.in_ok-push.ensures.items
    ∙ ap (λ x. c.loop-c.reads.items ++ x ∷ []) (c.read_count.ensures ∙ ap (λ x. x.read) c.channel.ensures))
