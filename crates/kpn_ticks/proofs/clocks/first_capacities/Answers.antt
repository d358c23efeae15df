-- One capacity more.
use Rattle.kpn_ticks.proofs.Common.{[], ◌∷◌, ◌++◌, ap, ◌∙◌, channel_at, capacity}
use Rattle.kpn_ticks.proofs.Counting.{one_more}
use Rattle.kpn_ticks.proofs.clocks.first_capacities.Goals as goal

pub loop-c-preserved : goal.loop-c-preserved
loop-c-preserved c =
    one_more (λ d. capacity (channel_at c.args.network.now d)) c.loop-c.c c.loop-c.capacities.items
    c.push.new.self.items c.loop-c.invariant
    (c.in_ok-push.ensures.items ∙ ap (λ x. c.loop-c.capacities.items ++ x ∷ []) c.cap_of.ensures)
