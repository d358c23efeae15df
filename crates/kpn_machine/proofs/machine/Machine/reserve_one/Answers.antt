use Rattle.kpn_machine.proofs.Common.{◌<◌, length, is_ok, None, false, IsTrue, sym, ap, ◌∙◌, subst, opened, with_channel}
use Rattle.kpn_machine.proofs.Calls.{element}
use Rattle.kpn_machine.proofs.Mirror.{mirror_kept, room_same}
use Rattle.kpn_machine.proofs.Reserving.{IsMachine-reserved, IsRun-reserved, room_made}
use Rattle.kpn_machine.proofs.machine.Machine.reserve_one.Goals as goal

pub index_mut-channel-requires : goal.index_mut-channel-requires
index_mut-channel-requires g c =
    subst (λ n. c.args.c < n) (sym c.self.inside.channels.ok.0)
    (subst (λ s. c.args.c < length s.channels) (sym c.self.view_is) c.requires)

pub invariant_of-self : goal.invariant_of-self
invariant_of-self g c =
    mirror_kept c.self.inside.channels.items c.self.inside.capacities.items c.args.c c.reserve_one.new.self
    c.index_mut-channel.result.now c.self.invariant
    (ap (λ x. x.capacity) c.reserve_one.ensures.after
    ∙ room_same (is_ok c.reserve_one.result) c.index_mut-channel.result.now) c.index_mut-channel.ensures.value

pub returns : goal.returns
returns g c =
    let s = c.args.self.now in
    let done = is_ok c.reserve_one.result in
    let value =
    element c.self.inside.channels.items s.channels c.args.c c.index_mut-channel.result.now (opened None false)
    (ap (λ x. x.channels) c.self.view_is) c.requires c.index_mut-channel.ensures.value in
    let after =
    ap (λ x. with_channel c.args.c c.reserve_one.new.self x) c.self.view_is
    ∙ room_made s c.args.c c.requires done c.reserve_one.new.self c.index_mut-channel.result.now
    c.reserve_one.ensures.after value in
    record {
      after = after;
      already = λ room. c.reserve_one.ensures.already (subst (λ x. IsTrue x.is_reserved) (sym value) room);
      shape = λ t h. IsMachine-reserved s c.args.c c.requires t done _ after h;
      run = λ t H run. IsRun-reserved s c.args.c c.requires t H done _ after run;
    }
