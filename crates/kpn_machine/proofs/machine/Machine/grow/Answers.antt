use Rattle.kpn_machine.proofs.Common.{◌<◌, length, IsTrue, refl, sym, ap, ◌∙◌, subst, arith, slice_set, writer_of, AreWaits, MayGrowTo, grown_to, Machine, channel_in, is_wait}
use Rattle.kpn_net.specs.declared.wait.Wait.TheVariants.{Full}
use Rattle.kpn_machine.proofs.Growing.{owed_below, owed_may_grow, owed_is_reserved, Made-grown, larger_by_history, Legal-grown}
use Rattle.kpn_machine.proofs.Running.{IsRun-next}
use Rattle.kpn_machine.proofs.Woken.{woken_same, told_same}
use Rattle.kpn_machine.proofs.machine.Machine.grow.Goals as goal

pub wake_writer-woken-requires-clause-channel : goal.wake_writer-woken-requires-clause-channel
wake_writer-woken-requires-clause-channel g c =
    owed_below c.args.network.now c.known.ensures c.args.self.now c.requires.shape c.args.p c.args.d c.requires.awaited

pub wake_writer-woken-requires-clause-waits : goal.wake_writer-woken-requires-clause-waits
wake_writer-woken-requires-clause-waits g c =
    subst (λ s. AreWaits c.args.network.now s.waits) (sym c.self.view_is) c.requires.shape.waits

pub larger_capacity-capacity-requires-clause-channel : goal.larger_capacity-capacity-requires-clause-channel
larger_capacity-capacity-requires-clause-channel g c =
    let below =
    owed_below c.args.network.now c.known.ensures c.args.self.now c.requires.shape c.args.p c.args.d
    c.requires.awaited in
    omega (arith, c.requires.shape.channels)

pub enlarge-requires-clause-channel : goal.enlarge-requires-clause-channel
enlarge-requires-clause-channel g c =
    let below =
    owed_below c.args.network.now c.known.ensures c.args.self.now c.requires.shape c.args.p c.args.d
    c.requires.awaited in
    let there : c.args.d < length c.args.self.now.channels = omega (arith, c.requires.shape.channels) in
    subst (λ x. c.args.d < length x.channels) (sym c.self.view_is) there

pub enlarge-requires-clause-capacity : goal.enlarge-requires-clause-capacity
enlarge-requires-clause-capacity g c =
    subst (λ x. MayGrowTo c.larger_capacity-capacity.result (channel_in x c.args.d)) (sym c.self.view_is)
    (subst (λ cap. MayGrowTo cap (channel_in c.args.self.now c.args.d)) (sym c.larger_capacity-capacity.ensures)
    (owed_may_grow c.args.network.now c.known.ensures c.args.self.now c.requires.shape c.args.p c.args.d
    c.requires.awaited))

pub enlarge-requires-clause-reserved : goal.enlarge-requires-clause-reserved
enlarge-requires-clause-reserved g c =
    subst (λ x. IsTrue (channel_in x c.args.d).is_reserved) (sym c.self.view_is)
    (owed_is_reserved c.args.network.now c.known.ensures c.args.self.now c.requires.shape c.args.p c.args.d
    c.requires.awaited)

pub returns : goal.returns
returns g c =
    let t = c.args.network.now in
    let s = c.args.self.now in
    let after = c.enlarge.new.self in
    let reserved = (channel_in after c.args.d).is_reserved in
    let same = ap (λ x. x.waits) c.self.view_is in
    let woke =
    woken_same (is_wait (Full c.args.d)) (writer_of t c.args.d) _
    c.self.inside.waits s.waits c.wake_writer-woken.new.self
    c.wake_writer-woken.ensures.after
    refl same in
    let made =
    Made-grown t c.known.ensures s c.requires.shape c.args.p c.args.d c.requires.awaited reserved
    c.enlarge.ensures.reserved c.wake_writer-woken.new.self woke after
    (c.enlarge.ensures.after
    ∙ ap
    (λ (x : Machine).
    record x {
      channels = slice_set x.channels c.args.d
          (grown_to c.larger_capacity-capacity.result reserved (channel_in x c.args.d));
      waits = c.wake_writer-woken.new.self;
    }) c.self.view_is
    ∙ ap
    (λ cap.
    record s {
      channels = slice_set s.channels c.args.d (grown_to cap reserved (channel_in s c.args.d));
      waits = c.wake_writer-woken.new.self;
    }) c.larger_capacity-capacity.ensures)
    c.larger_capacity-capacity.result in
    record {
      capacity = c.larger_capacity-capacity.ensures;
      told = λ H run. c.larger_capacity-capacity.ensures
          ∙ larger_by_history t c.known.ensures s c.requires.shape c.args.p c.args.d c.requires.awaited H run;
      woken =
          told_same (is_wait (Full c.args.d)) (writer_of t c.args.d) _
          c.self.inside.waits s.waits c.wake_writer-woken.result
          c.wake_writer-woken.ensures.who refl same;
      changes = made.changes;
      shape = made.shape;
      run = λ H run owes. IsRun-next t c.known.ensures H _ s after run
          (Legal-grown t c.known.ensures s c.requires.shape c.args.p c.args.d c.requires.awaited H c.requires.process
          run
          owes c.larger_capacity-capacity.result c.larger_capacity-capacity.ensures)
          made.changes made.shape;
    }
