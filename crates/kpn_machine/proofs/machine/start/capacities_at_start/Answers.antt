use Rattle.kpn_machine.proofs.Common.{◌≡◌, ap, ◌∙◌, unwrap_or, channel_at, capacity}
use Rattle.kpn_machine.proofs.Starting.{len_push, each_push}
use Rattle.kpn_machine.proofs.machine.start.capacities_at_start.Goals as goal

pub loop-c-preserved : goal.loop-c-preserved
loop-c-preserved g c =
    let t = c.args.network.now in
    let loop = c.loop-c in
    record {
      len = len_push loop.capacities.items _ c.unwrap_or.result loop.c c.in_ok-push.ensures.items loop.invariant.len;
      each =
          each_push (λ k cap. cap ≡ unwrap_or (capacity (channel_at t k)) 0) loop.capacities.items _ c.unwrap_or.result
          0 loop.c c.in_ok-push.ensures.items loop.invariant.len loop.invariant.each
          (c.unwrap_or.ensures ∙ ap (λ o. unwrap_or o 0) c.cap_of.ensures);
    }
