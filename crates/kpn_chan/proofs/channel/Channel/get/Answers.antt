use Rattle.std.specs.Prelude.{◌+◌, ◌<◌, ◌^◌}
use Rattle.kpn_chan.proofs.Common.{ap, sym, ◌∙◌, subst, rules, IsLaidOut}
use Rattle.kpn_chan.proofs.Places.{passed}
use Rattle.kpn_chan.proofs.channel.Channel.get.Goals as goal

pub overflow_add-self : goal.overflow_add-self
overflow_add-self g c =
    let inside = c.self.inside in
    let fits : inside.read + 1 < 2 ^ 64 =
    (passed inside.journal inside.read inside.most inside.capacity inside.roomy inside.wide c.in-Some.ring c.pop_front.new.self c.in_ok-item.item
    (subst (λ ring. IsLaidOut inside.journal inside.read ring inside.capacity inside.most inside.roomy inside.wide) c.in-Some.is
    c.self.invariant)
    (sym c.pop_front.ensures.value ∙ c.in_ok-item.was) (ap (λ b. b.items) c.pop_front.ensures.items) (ap (λ b. b.capacity) c.pop_front.ensures.items)).1 in
    search rules

pub invariant_of-self-2 : goal.invariant_of-self-2
invariant_of-self-2 g c =
    let inside = c.self.inside in
    (passed inside.journal inside.read inside.most inside.capacity inside.roomy inside.wide c.in-Some.ring c.pop_front.new.self c.in_ok-item.item
    (subst (λ ring. IsLaidOut inside.journal inside.read ring inside.capacity inside.most inside.roomy inside.wide) c.in-Some.is
    c.self.invariant)
    (sym c.pop_front.ensures.value ∙ c.in_ok-item.was) (ap (λ b. b.items) c.pop_front.ensures.items) (ap (λ b. b.capacity) c.pop_front.ensures.items)).0
