use Rattle.kpn_machine.proofs.Common.{None, false, IsTrue, refl, sym, ap, ◌∙◌, subst, arith, slice_set, writer_of, AreWaits, reader_of-sink, opened, retired, Machine, is_wait}
use Rattle.kpn_net.specs.declared.wait.Wait.TheVariants.{Full}
use Rattle.kpn_machine.proofs.Calls.{element, Made-left}
use Rattle.kpn_machine.proofs.Due.{Legal-left}
use Rattle.kpn_machine.proofs.Mirror.{mirror_kept}
use Rattle.kpn_machine.proofs.Running.{IsRun-next}
use Rattle.kpn_machine.proofs.Woken.{woken_same, told_same}
use Rattle.kpn_machine.proofs.machine.Machine.leave.Goals as goal

pub wake_writer-requires-clause-waits : goal.wake_writer-requires-clause-waits
wake_writer-requires-clause-waits g c =
    subst (λ s. AreWaits c.args.network.now s.waits) (sym c.self.view_is) c.requires.shape.waits

pub invariant_of-self : goal.invariant_of-self
invariant_of-self g c =
    mirror_kept c.self.inside.channels.items c.self.inside.capacities.items c.args.c c.retire.new.self
    c.index_mut-channel.result.now c.self.invariant (ap (λ x. x.capacity) c.retire.ensures.after)
    c.index_mut-channel.ensures.value

pub returns : goal.returns
returns g c =
    let t = c.args.network.now in
    let s = c.args.self.now in
    let ch = c.retire.new.self in
    let value =
    element c.self.inside.channels.items s.channels c.args.c c.index_mut-channel.result.now (opened None false)
    (ap (λ x. x.channels) c.self.view_is) (omega (arith, c.requires.channel, c.requires.shape.channels))
    c.index_mut-channel.ensures.value in
    let left = c.retire.ensures.after ∙ ap (λ x. retired ch.is_reserved x) value in
    let keep = subst (λ x. IsTrue x.is_reserved → IsTrue ch.is_reserved) value c.retire.ensures.reserved in
    let same = ap (λ x. x.waits) c.self.view_is in
    let woke =
    woken_same (is_wait (Full c.args.c)) (writer_of t c.args.c) _ c.self.inside.waits s.waits c.wake_writer.new.self
    c.wake_writer.ensures.after
    refl same in
    let made =
    Made-left t s c.requires.shape c.args.c ch c.requires.channel (reader_of-sink t c.args.c c.requires.sink) left keep
    c.wake_writer.new.self woke _
    (ap (λ (x : Machine).
    record x { channels = slice_set x.channels c.args.c ch; waits = c.wake_writer.new.self })
    c.self.view_is) in
    record {
      woken =
          told_same (is_wait (Full c.args.c)) (writer_of t c.args.c) _ c.self.inside.waits s.waits c.wake_writer.result
          c.wake_writer.ensures.who refl same;
      changes = made.changes;
      shape = made.shape;
      run = λ H run owes. IsRun-next t c.known.ensures H _ s _ run
          (Legal-left t c.known.ensures H s run owes c.args.c c.requires.channel c.requires.sink c.requires.there)
          made.changes made.shape;
    }
