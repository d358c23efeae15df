use Rattle.kpn_machine.proofs.Common.{◌≡◌, ap, ◌∙◌, None, false, channel_at, capacity, opened, opened_as, keeps_items}
use Rattle.kpn_machine.proofs.Starting.{len_push, each_push}
use Rattle.kpn_machine.proofs.machine.start.channels_at_start.Goals as goal

pub loop-c-preserved : goal.loop-c-preserved
loop-c-preserved g c =
    let t = c.args.network.now in
    let loop = c.loop-c in
    let x = c.in_ok-channel.channel in
    record {
      len = len_push loop.channels.items _ x loop.c c.in_ok-push.ensures.items loop.invariant.len;
      each =
          each_push (λ k ch. ch ≡ opened_as (keeps_items c.args.keeping t k) (capacity (channel_at t k)) ch.is_reserved)
          loop.channels.items _ x
          (opened None false) loop.c c.in_ok-push.ensures.items loop.invariant.len loop.invariant.each
          (c.in_ok-channel.ensures ∙ ap (λ b. opened_as b c.cap_of.result x.is_reserved) c.keeps_items-keeps.ensures
          ∙ ap (λ o. opened_as (keeps_items c.args.keeping t loop.c) o x.is_reserved) c.cap_of.ensures);
    }
