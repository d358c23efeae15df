use Rattle.kpn_machine.proofs.Common.{◌≡◌, ◌<◌, length, is_ok, None, false, IsTrue, sym, ap, ◌∙◌, subst, opened, with_channel, IsMachine, IsRun}
use Rattle.kpn_machine.proofs.Calls.{element}
use Rattle.kpn_machine.proofs.Mirror.{mirror_kept}
use Rattle.kpn_machine.proofs.Reserving.{HasRoomOf, has_room_made, room_shape, room_run, room_after, written_back}
use Rattle.kpn_machine.proofs.machine.Machine.make_roomy.Goals as goal

pub index_mut-channel-requires : goal.index_mut-channel-requires
index_mut-channel-requires g c =
    subst (λ n. c.args.c < n) (sym c.self.inside.channels.ok.0)
    (subst (λ s. c.args.c < length s.channels) (sym c.self.view_is) c.requires)

pub invariant_of-self : goal.invariant_of-self
invariant_of-self g c =
    let made = c.make_roomy.new.self in
    mirror_kept c.self.inside.channels.items c.self.inside.capacities.items c.args.c made
    c.index_mut-channel.result.now c.self.invariant
    (has_room_made (is_ok c.make_roomy.result) made.is_reserved c.index_mut-channel.result.now made
    c.make_roomy.ensures.after c.make_roomy.ensures.reserved).capacity c.index_mut-channel.ensures.value

pub returns : goal.returns
returns g c =
    let s = c.args.self.now in
    let done = is_ok c.make_roomy.result in
    let made = c.make_roomy.new.self in
    let before = c.index_mut-channel.result.now in
    let value =
    element c.self.inside.channels.items s.channels c.args.c before (opened None false)
    (ap (λ x. x.channels) c.self.view_is) c.requires c.index_mut-channel.ensures.value in
    let whole = ap (λ x. with_channel c.args.c made x) c.self.view_is in
    let more =
    subst (λ x. HasRoomOf x made) value
    (has_room_made done made.is_reserved before made c.make_roomy.ensures.after c.make_roomy.ensures.reserved) in
    record {
      after = room_after s c.args.c c.requires done made before _ c.make_roomy.ensures.after value whole;
      reserved = λ room.
          subst (λ x. IsTrue x.is_reserved) (sym (written_back s c.args.c c.requires made _ whole)) (more.reserved room);
      shape = λ t h. subst (λ x. IsMachine t x) (sym whole) (room_shape s c.args.c c.requires made more t h);
      run = λ t H run. subst (λ x. IsRun t H x) (sym whole) (room_run s c.args.c c.requires made more t H run);
    }
