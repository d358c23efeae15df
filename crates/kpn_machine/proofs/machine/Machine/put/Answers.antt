use Rattle.kpn_machine.proofs.Common.{◌≡◌, ◌<◌, length, to_z, of_z, ap, ◌∙◌, refl, sym, subst, w64, arith, None, false, IsTrue, slice_set, to_z-of_z, Empty, program_of, reader_of, AreWaits, passed, fits, StandsAtWrite, opened, after_put, Machine, channel_in, no_frame, is_wait}
use Rattle.kpn_machine.proofs.Calls.{element, Made-put}
use Rattle.kpn_machine.proofs.Due.{Legal-put}
use Rattle.kpn_machine.proofs.Mirror.{mirror_kept}
use Rattle.kpn_machine.proofs.Ports.{writes_below, writes_own, at_write}
use Rattle.kpn_machine.proofs.Running.{IsRun-next}
use Rattle.kpn_machine.proofs.Woken.{woken_same, told_same}
use Rattle.kpn_machine.proofs.machine.Machine.put.Goals as goal

pub index_mut-channel-requires : goal.index_mut-channel-requires
index_mut-channel-requires g c =
    subst (λ n. c.args.c < n)
    (sym (c.self.inside.channels.ok.0 ∙ ap (λ x. length x.channels) c.self.view_is ∙ c.requires.shape.channels))
    (writes_below c.args.network.now c.known.ensures c.args.self.now c.args.p c.requires.process c.args.c c.args.item
    c.requires.writes)

pub index_mut-frame-requires : goal.index_mut-frame-requires
index_mut-frame-requires g c =
    subst (λ n. c.args.p < n)
    (sym (c.self.inside.frames.ok.0 ∙ ap (λ x. length x.frames) c.self.view_is ∙ c.requires.shape.frames))
    c.requires.process

pub pass_write-requires-clause-fits : goal.pass_write-requires-clause-fits
pass_write-requires-clause-fits g c =
    let s = c.args.self.now in
    let frame =
    element c.self.inside.frames.items s.frames c.args.p c.index_mut-frame.result.now no_frame
    (ap (λ x. x.frames) c.self.view_is) (omega (arith, c.requires.process, c.requires.shape.frames))
    c.index_mut-frame.ensures.value in
    subst (λ x. IsTrue (fits x c.index_mut-frame.result.now)) (sym c.program.ensures)
    (subst (λ f. IsTrue (fits (program_of c.args.network.now c.args.p) f)) (sym frame)
    (c.requires.shape.fit c.args.p c.requires.process))

pub pass_write-requires-clause-write : goal.pass_write-requires-clause-write
pass_write-requires-clause-write g c =
    let t = c.args.network.now in
    let s = c.args.self.now in
    let frame =
    element c.self.inside.frames.items s.frames c.args.p c.index_mut-frame.result.now no_frame
    (ap (λ x. x.frames) c.self.view_is) (omega (arith, c.requires.process, c.requires.shape.frames))
    c.index_mut-frame.ensures.value in
    subst (λ x. StandsAtWrite x.blocks c.index_mut-frame.result.now) (sym c.program.ensures)
    (subst (StandsAtWrite (program_of t c.args.p).blocks) (sym frame)
    (at_write t c.known.ensures s c.args.p c.requires.process c.args.c c.args.item c.requires.writes))

pub put-requires : goal.put-requires
put-requires g c =
    let t = c.args.network.now in
    let s = c.args.self.now in
    let there =
    writes_below t c.known.ensures s c.args.p c.requires.process c.args.c c.args.item c.requires.writes in
    let value =
    element c.self.inside.channels.items s.channels c.args.c c.index_mut-channel.result.now (opened None false)
    (ap (λ x. x.channels) c.self.view_is) (omega (arith, c.requires.shape.channels)) c.index_mut-channel.ensures.value
    in
    subst (λ x. IsTrue x.is_reserved) (sym value) c.requires.reserved

pub wake_reader-requires-clause-channel : goal.wake_reader-requires-clause-channel
wake_reader-requires-clause-channel g c =
    writes_below c.args.network.now c.known.ensures c.args.self.now c.args.p c.requires.process c.args.c c.args.item
    c.requires.writes

pub wake_reader-requires-clause-waits : goal.wake_reader-requires-clause-waits
wake_reader-requires-clause-waits g c =
    subst (λ s. AreWaits c.args.network.now s.waits) (sym c.self.view_is) c.requires.shape.waits

pub invariant_of-self : goal.invariant_of-self
invariant_of-self g c =
    mirror_kept c.self.inside.channels.items c.self.inside.capacities.items c.args.c c.put.new.self
    c.index_mut-channel.result.now c.self.invariant (ap (λ x. x.capacity) c.put.ensures)
    c.index_mut-channel.ensures.value

pub returns : goal.returns
returns g c =
    let t = c.args.network.now in
    let s = c.args.self.now in
    let ch = c.put.new.self in
    let there =
    writes_below t c.known.ensures s c.args.p c.requires.process c.args.c c.args.item c.requires.writes in
    let own = writes_own t c.known.ensures s c.args.p c.requires.process c.args.c c.args.item c.requires.writes in
    let value =
    element c.self.inside.channels.items s.channels c.args.c c.index_mut-channel.result.now (opened None false)
    (ap (λ x. x.channels) c.self.view_is) (omega (arith, c.requires.shape.channels)) c.index_mut-channel.ensures.value
    in
    let frame =
    element c.self.inside.frames.items s.frames c.args.p c.index_mut-frame.result.now no_frame
    (ap (λ x. x.frames) c.self.view_is) (omega (arith, c.requires.process, c.requires.shape.frames))
    c.index_mut-frame.ensures.value in
    let put =
    subst (λ v. ch ≡ after_put v ch.is_reserved (channel_in s c.args.c)) (to_z-of_z w64 c.args.item c.ranges.item)
    (c.put.ensures ∙ ap (λ x. after_put (to_z w64 (of_z w64 c.args.item)) ch.is_reserved x) value) in
    let same = ap (λ x. x.waits) c.self.view_is in
    let woke =
    woken_same (is_wait (Empty c.args.c)) (reader_of t c.args.c) _ c.self.inside.waits s.waits c.wake_reader.new.self
    c.wake_reader.ensures.after
    refl same in
    let made =
    Made-put t s c.requires.shape c.args.c c.args.item ch there c.wake_reader.new.self _ put woke c.args.p
    c.requires.process
    c.requires.free c.requires.writes own c.requires.ready
    (ap
    (λ (x : Machine).
    record x {
      channels = slice_set x.channels c.args.c ch;
      waits = c.wake_reader.new.self;
      frames = slice_set x.frames c.args.p c.pass_write.new.self;
    }) c.self.view_is
    ∙ ap
    (λ f.
    record s {
      channels = slice_set s.channels c.args.c ch;
      waits = c.wake_reader.new.self;
      frames = slice_set s.frames c.args.p f;
    }) (c.pass_write.ensures.passed ∙ ap passed frame)) in
    record {
      woken =
          told_same (is_wait (Empty c.args.c)) (reader_of t c.args.c) _ c.self.inside.waits s.waits c.wake_reader.result
          c.wake_reader.ensures.who refl same;
      changes = made.changes;
      shape = made.shape;
      run = λ H run owes. IsRun-next t c.known.ensures H _ s _ run
          (Legal-put t c.known.ensures H s run owes c.args.p c.requires.process c.requires.free c.args.c c.args.item
          there c.requires.writes c.requires.ready)
          made.changes made.shape;
    }
