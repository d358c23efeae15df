use Rattle.kpn_machine.proofs.Common.{◌≡◌, ◌<◌, length, None, false, nat_lt, IsTrue, slice_set, arith, sym, ap, ◌∙◌, subst, get_or-set_same, AreWaits, opened, MayJoin, batch_joined, Machine, channel_in, with_channel, with_waits, AreWoken, ends_by_batch}
use Rattle.kpn_machine.proofs.Calls.{element}
use Rattle.kpn_machine.proofs.Mirror.{mirror_kept}
use Rattle.kpn_machine.proofs.machine.Machine.join_channel.Goals as goal

pub index_mut-channel-requires : goal.index_mut-channel-requires
index_mut-channel-requires g c =
    subst (λ n. c.args.c < n) (sym c.self.inside.channels.ok.0)
    (subst (λ s. c.args.c < length s.channels) (sym c.self.view_is)
    (omega (arith, c.requires.channel, c.requires.channels)))

pub join-requires : goal.join-requires
join-requires g c =
    let s = c.args.self.now in
    let value =
    element c.self.inside.channels.items s.channels c.args.c c.index_mut-channel.result.now (opened None false)
    (ap (λ x. x.channels) c.self.view_is) (omega (arith, c.requires.channel, c.requires.channels))
    c.index_mut-channel.ensures.value in
    subst (λ x. MayJoin c.args.taken c.args.items.now c.args.most x) (sym value) c.requires.joins

pub wake_by_batch-requires-clause-waits : goal.wake_by_batch-requires-clause-waits
wake_by_batch-requires-clause-waits g c =
    subst (λ s. AreWaits c.args.network.now s.waits) (sym c.self.view_is) c.requires.waits

pub invariant_of-self : goal.invariant_of-self
invariant_of-self g c =
    mirror_kept c.self.inside.channels.items c.self.inside.capacities.items c.args.c c.join.new.self
    c.index_mut-channel.result.now c.self.invariant (ap (λ x. x.capacity) c.join.ensures.after)
    c.index_mut-channel.ensures.value

pub returns : goal.returns
returns g c =
    let s = c.args.self.now in
    let items = c.args.items.now in
    let there : c.args.c < length s.channels = omega (arith, c.requires.channel, c.requires.channels) in
    let channel = c.join.new.self in
    let waits = c.wake_by_batch.new.self in
    let value =
    element c.self.inside.channels.items s.channels c.args.c c.index_mut-channel.result.now (opened None false)
    (ap (λ x. x.channels) c.self.view_is) there c.index_mut-channel.ensures.value in
    let whole =
    ap (λ (x : Machine). with_waits waits (with_channel c.args.c channel x)) c.self.view_is in
    let at =
    ap (λ (x : Machine). channel_in x c.args.c) whole
    ∙ get_or-set_same s.channels c.args.c channel (opened None false) there in
    record {
      after = whole ∙ ap (λ x. with_waits waits (with_channel c.args.c x s)) (sym at);
      channel =
          subst (λ x. x ≡ batch_joined c.args.taken items c.args.most x.is_reserved x.is_roomy (channel_in s c.args.c)) (sym at)
          (c.join.ensures.after
          ∙ ap (λ x. batch_joined c.args.taken items c.args.most channel.is_reserved channel.is_roomy x) value);
      reserved = λ none room.
          subst (λ x. IsTrue x.is_reserved) (sym at)
          (c.join.ensures.reserved none (subst (λ x. IsTrue x.is_reserved) (sym value) room));
      woken =
          subst
          (λ (x : Machine). AreWoken (ends_by_batch c.args.c (nat_lt 0 c.args.taken) (nat_lt 0 (length items)))
          x.waits waits) c.self.view_is c.wake_by_batch.ensures.woken;
      waits = c.wake_by_batch.ensures.waits;
    }
