use Rattle.kpn_machine.proofs.Common.{to_z, of_z, None, Some, false, IsTrue, SFits, w64, rules, refl, sym, ap, ◌∙◌, subst, arith, slice_set, to_z-of_z, writer_of, AreWaits, opened, next_item, after_get, Take, Machine, is_wait}
use Rattle.kpn_net.specs.declared.wait.Wait.TheVariants.{Full}
use Rattle.kpn_machine.proofs.Calls.{element, Made-taken}
use Rattle.kpn_machine.proofs.Due.{Legal-taken}
use Rattle.kpn_machine.proofs.Mirror.{mirror_kept}
use Rattle.kpn_machine.proofs.Running.{IsRun-next}
use Rattle.kpn_machine.proofs.Woken.{woken_same, told_same}
use Rattle.kpn_machine.proofs.machine.Machine.take.Goals as goal

pub wake_writer-woken-requires-clause-waits : goal.wake_writer-woken-requires-clause-waits
wake_writer-woken-requires-clause-waits g c =
    subst (λ s. AreWaits c.args.network.now s.waits) (sym c.self.view_is) c.requires.shape.waits

pub invariant_of-self : goal.invariant_of-self
invariant_of-self g c =
    mirror_kept c.self.inside.channels.items c.self.inside.capacities.items c.args.c c.get.new.self
    c.index_mut-channel.result.now c.self.invariant
    (ap (λ x. x.capacity) (c.get.ensures.after ∙ ap (λ o. after_get o c.get.new.self.is_reserved
    c.index_mut-channel.result.now) c.in-Some.is)) c.index_mut-channel.ensures.value

pub returns : goal.returns
returns g c =
    let t = c.args.network.now in
    let s = c.args.self.now in
    let item = to_z w64 (of_z w64 c.in-Some.item) in
    let ch = c.get.new.self in
    let fits : SFits w64 c.in-Some.item = search rules in
    let stored = sym (to_z-of_z w64 c.in-Some.item fits) in
    let value =
    element c.self.inside.channels.items s.channels c.args.c c.index_mut-channel.result.now (opened None false)
    (ap (λ x. x.channels) c.self.view_is) (omega (arith, c.requires.channel, c.requires.shape.channels))
    c.index_mut-channel.ensures.value in
    let read =
    c.get.ensures.after ∙ ap (λ o. after_get o ch.is_reserved c.index_mut-channel.result.now) c.in-Some.is
    ∙ ap (λ x. after_get (Some item) ch.is_reserved x) value in
    let keep = subst (λ x. IsTrue x.is_reserved → IsTrue ch.is_reserved) value c.get.ensures.reserved in
    let next = ap next_item (sym value) ∙ sym c.get.ensures.item ∙ c.in-Some.is ∙ ap Some stored in
    let same = ap (λ x. x.waits) c.self.view_is in
    let woke =
    woken_same (is_wait (Full c.args.c)) (writer_of t c.args.c) _
    c.self.inside.waits s.waits c.wake_writer-woken.new.self
    c.wake_writer-woken.ensures.after
    refl same in
    let made =
    Made-taken t s c.requires.shape c.args.c item ch c.requires.channel c.wake_writer-woken.new.self _ read keep woke
    (ap
    (λ (x : Machine).
    record x { channels = slice_set x.channels c.args.c ch; waits = c.wake_writer-woken.new.self })
    c.self.view_is) in
    record {
      item = next;
      woken =
          told_same (is_wait (Full c.args.c)) (writer_of t c.args.c) _
          c.self.inside.waits s.waits c.wake_writer-woken.result
          c.wake_writer-woken.ensures.who refl same;
      changes = made.changes;
      shape = made.shape;
      run = λ H run owes. IsRun-next t c.known.ensures H (Take c.args.c item) s _ run
          (Legal-taken t c.known.ensures H s run owes c.args.c c.requires.channel item c.requires.sink next)
          made.changes made.shape;
    }
