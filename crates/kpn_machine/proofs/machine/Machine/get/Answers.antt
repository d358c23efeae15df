use Rattle.kpn_machine.proofs.Common.{◌<◌, length, to_z, of_z, None, Some, IsSome, false, IsTrue, SFits, w64, rules, refl, sym, ap, ◌∙◌, subst, arith, slice_set, to_z-of_z, false≢true, program_of, writer_of, AreWaits, fits, IsGiven, StandsAtRead, opened, next_item, after_get, Get, Machine, frame_in, no_frame, is_wait}
use Rattle.kpn_net.specs.declared.wait.Wait.TheVariants.{Full}
use Rattle.kpn_machine.proofs.Calls.{element, Made-got}
use Rattle.kpn_machine.proofs.Due.{Legal-got}
use Rattle.kpn_machine.proofs.Mirror.{mirror_kept}
use Rattle.kpn_machine.proofs.Ports.{reads_below, at_read}
use Rattle.kpn_machine.proofs.Running.{IsRun-next}
use Rattle.kpn_machine.proofs.Woken.{woken_same, told_same}
use Rattle.kpn_machine.proofs.machine.Machine.get.Goals as goal

pub index_mut-channel-requires : goal.index_mut-channel-requires
index_mut-channel-requires g c =
    subst (λ n. c.args.c < n)
    (sym (c.self.inside.channels.ok.0 ∙ ap (λ x. length x.channels) c.self.view_is ∙ c.requires.shape.channels))
    (reads_below c.args.network.now c.known.ensures c.args.self.now c.args.p c.requires.process c.args.c
    c.requires.reads)

pub index_mut-frame-requires : goal.index_mut-frame-requires
index_mut-frame-requires g c =
    subst (λ n. c.args.p < n)
    (sym (c.self.inside.frames.ok.0 ∙ ap (λ x. length x.frames) c.self.view_is ∙ c.requires.shape.frames))
    c.requires.process

pub pass_read-requires-clause-fits : goal.pass_read-requires-clause-fits
pass_read-requires-clause-fits g c =
    let s = c.args.self.now in
    let frame =
    element c.self.inside.frames.items s.frames c.args.p c.index_mut-frame.result.now no_frame
    (ap (λ x. x.frames) c.self.view_is) (omega (arith, c.requires.process, c.requires.shape.frames))
    c.index_mut-frame.ensures.value in
    subst (λ x. IsTrue (fits x c.index_mut-frame.result.now)) (sym c.requires.program)
    (subst (λ f. IsTrue (fits (program_of c.args.network.now c.args.p) f)) (sym frame)
    (c.requires.shape.fit c.args.p c.requires.process))

pub pass_read-requires-clause-read : goal.pass_read-requires-clause-read
pass_read-requires-clause-read g c =
    let t = c.args.network.now in
    let s = c.args.self.now in
    let frame =
    element c.self.inside.frames.items s.frames c.args.p c.index_mut-frame.result.now no_frame
    (ap (λ x. x.frames) c.self.view_is) (omega (arith, c.requires.process, c.requires.shape.frames))
    c.index_mut-frame.ensures.value in
    subst (λ x. StandsAtRead x.blocks c.index_mut-frame.result.now) (sym c.requires.program)
    (subst (StandsAtRead (program_of t c.args.p).blocks) (sym frame)
    (at_read t c.known.ensures s c.args.p c.requires.process c.args.c c.requires.reads))

pub unreachable-requires : goal.unreachable-requires
unreachable-requires g c =
    let t = c.args.network.now in
    let s = c.args.self.now in
    let there = reads_below t c.known.ensures s c.args.p c.requires.process c.args.c c.requires.reads in
    let value =
    element c.self.inside.channels.items s.channels c.args.c c.index_mut-channel.result.now (opened None false)
    (ap (λ x. x.channels) c.self.view_is) (omega (arith, c.requires.shape.channels)) c.index_mut-channel.ensures.value
    in
    false≢true
    (subst IsSome (ap next_item (sym value) ∙ sym c.get.ensures.item ∙ c.in_default.is) c.requires.ready)

pub wake_writer-woken-requires-clause-channel : goal.wake_writer-woken-requires-clause-channel
wake_writer-woken-requires-clause-channel g c =
    reads_below c.args.network.now c.known.ensures c.args.self.now c.args.p c.requires.process c.args.c
    c.requires.reads

pub wake_writer-woken-requires-clause-waits : goal.wake_writer-woken-requires-clause-waits
wake_writer-woken-requires-clause-waits g c =
    subst (λ s. AreWaits c.args.network.now s.waits) (sym c.self.view_is) c.requires.shape.waits

pub invariant_of-self : goal.invariant_of-self
invariant_of-self g c =
    mirror_kept c.self.inside.channels.items c.self.inside.capacities.items c.args.c c.get.new.self
    c.index_mut-channel.result.now c.self.invariant
    (ap (λ x. x.capacity) (c.get.ensures.after ∙ ap (λ o. after_get o c.get.new.self.is_reserved
    c.index_mut-channel.result.now) c.in-Some.is)) c.index_mut-channel.ensures.value

pub returns : goal.returns
returns g c =
    let t = c.args.network.now in
    let s = c.args.self.now in
    let item = to_z w64 (of_z w64 c.in-Some.item) in
    let ch = c.get.new.self in
    let to = c.pass_read.new.self in
    let fits : SFits w64 c.in-Some.item = search rules in
    let stored = sym (to_z-of_z w64 c.in-Some.item fits) in
    let there = reads_below t c.known.ensures s c.args.p c.requires.process c.args.c c.requires.reads in
    let value =
    element c.self.inside.channels.items s.channels c.args.c c.index_mut-channel.result.now (opened None false)
    (ap (λ x. x.channels) c.self.view_is) (omega (arith, c.requires.shape.channels)) c.index_mut-channel.ensures.value
    in
    let frame =
    element c.self.inside.frames.items s.frames c.args.p c.index_mut-frame.result.now no_frame
    (ap (λ x. x.frames) c.self.view_is) (omega (arith, c.requires.process, c.requires.shape.frames))
    c.index_mut-frame.ensures.value in
    let read =
    c.get.ensures.after ∙ ap (λ o. after_get o ch.is_reserved c.index_mut-channel.result.now) c.in-Some.is
    ∙ ap (λ x. after_get (Some item) ch.is_reserved x) value in
    let keep = subst (λ x. IsTrue x.is_reserved → IsTrue ch.is_reserved) value c.get.ensures.reserved in
    let next = ap next_item (sym value) ∙ sym c.get.ensures.item ∙ c.in-Some.is ∙ ap Some stored in
    let given =
    subst (λ x. IsGiven x.blocks (frame_in s c.args.p) item to) c.requires.program
    (subst (λ f. IsGiven c.args.program.now.blocks f item to) frame
    c.pass_read.ensures.passed) in
    let same = ap (λ x. x.waits) c.self.view_is in
    let woke =
    woken_same (is_wait (Full c.args.c)) (writer_of t c.args.c) _
    c.self.inside.waits s.waits c.wake_writer-woken.new.self
    c.wake_writer-woken.ensures.after
    refl same in
    let made =
    Made-got t s c.requires.shape c.args.c item ch there c.wake_writer-woken.new.self _ read keep woke c.args.p to
    c.requires.process c.requires.free c.requires.reads given
    (ap
    (λ (x : Machine).
    record x {
      channels = slice_set x.channels c.args.c ch;
      waits = c.wake_writer-woken.new.self;
      frames = slice_set x.frames c.args.p to;
    }) c.self.view_is) in
    record {
      item = next;
      woken =
          told_same (is_wait (Full c.args.c)) (writer_of t c.args.c) _
          c.self.inside.waits s.waits c.wake_writer-woken.result
          c.wake_writer-woken.ensures.who refl same;
      changes = made.changes;
      shape = made.shape;
      run = λ H run owes. IsRun-next t c.known.ensures H (Get c.args.p c.args.c item) s _ run
          (Legal-got t c.known.ensures H s run owes c.args.p c.requires.process c.requires.free c.args.c item there
          c.requires.reads next)
          made.changes made.shape;
    }
