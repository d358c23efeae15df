use Rattle.kpn_machine.proofs.Common.{◌≡◌, to_z, of_z, ap, ◌∙◌, refl, sym, subst, w64, arith, None, false, slice_set, to_z-of_z, Empty, reader_of, AreWaits, opened, after_put, Machine, channel_in, is_wait}
use Rattle.kpn_machine.proofs.Calls.{element, Made-fed}
use Rattle.kpn_machine.proofs.Due.{Legal-fed}
use Rattle.kpn_machine.proofs.Mirror.{mirror_kept}
use Rattle.kpn_machine.proofs.Running.{IsRun-next}
use Rattle.kpn_machine.proofs.Woken.{woken_same, told_same}
use Rattle.kpn_machine.proofs.machine.Machine.feed.Goals as goal

pub wake_reader-requires-clause-waits : goal.wake_reader-requires-clause-waits
wake_reader-requires-clause-waits g c =
    subst (λ s. AreWaits c.args.network.now s.waits) (sym c.self.view_is) c.requires.shape.waits

pub invariant_of-self : goal.invariant_of-self
invariant_of-self g c =
    mirror_kept c.self.inside.channels.items c.self.inside.capacities.items c.args.c c.put.new.self
    c.index_mut-channel.result.now c.self.invariant (ap (λ x. x.capacity) c.put.ensures)
    c.index_mut-channel.ensures.value

pub returns : goal.returns
returns g c =
    let t = c.args.network.now in
    let s = c.args.self.now in
    let ch = c.put.new.self in
    let value =
    element c.self.inside.channels.items s.channels c.args.c c.index_mut-channel.result.now (opened None false)
    (ap (λ x. x.channels) c.self.view_is) (omega (arith, c.requires.channel, c.requires.shape.channels))
    c.index_mut-channel.ensures.value in
    let put =
    subst (λ v. ch ≡ after_put v ch.is_reserved (channel_in s c.args.c)) (to_z-of_z w64 c.args.item c.ranges.item)
    (c.put.ensures ∙ ap (λ x. after_put (to_z w64 (of_z w64 c.args.item)) ch.is_reserved x) value) in
    let same = ap (λ x. x.waits) c.self.view_is in
    let woke =
    woken_same (is_wait (Empty c.args.c)) (reader_of t c.args.c) _ c.self.inside.waits s.waits c.wake_reader.new.self
    c.wake_reader.ensures.after
    refl same in
    let made =
    Made-fed t s c.requires.shape c.args.c c.args.item ch c.requires.channel c.wake_reader.new.self _ put woke
    c.requires.source
    (ap (λ (x : Machine).
    record x { channels = slice_set x.channels c.args.c ch; waits = c.wake_reader.new.self })
    c.self.view_is) in
    record {
      woken =
          told_same (is_wait (Empty c.args.c)) (reader_of t c.args.c) _ c.self.inside.waits s.waits c.wake_reader.result
          c.wake_reader.ensures.who refl same;
      changes = made.changes;
      shape = made.shape;
      run = λ H run owes. IsRun-next t c.known.ensures H _ s _ run
          (Legal-fed t c.known.ensures H s run owes c.args.c c.requires.channel c.args.item c.requires.source
          c.requires.open)
          made.changes made.shape;
    }
