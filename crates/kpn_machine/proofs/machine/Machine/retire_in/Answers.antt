use Rattle.kpn_machine.proofs.Common.{◌++◌, None, false, IsTrue, refl, sym, ap, ◌∙◌, subst, arith, slice_set, option_to_list, writer_of, AreWaits, opened, retired, Machine, is_wait, waiting_writer}
use Rattle.kpn_net.specs.declared.wait.Wait.TheVariants.{Full}
use Rattle.kpn_machine.proofs.Calls.{element}
use Rattle.kpn_machine.proofs.Ending.{EndSoFar-more, writer_still_waits, list_of_one}
use Rattle.kpn_machine.proofs.Mirror.{mirror_kept}
use Rattle.kpn_machine.proofs.Woken.{woken_same, told_same}
use Rattle.kpn_machine.proofs.machine.Machine.retire_in.Goals as goal

pub wake_writer-told-requires-clause-waits : goal.wake_writer-told-requires-clause-waits
wake_writer-told-requires-clause-waits g c =
    subst (λ s. AreWaits c.args.network.now s.waits) (sym c.self.view_is) c.requires.waits

pub invariant_of-self : goal.invariant_of-self
invariant_of-self g c =
    mirror_kept c.self.inside.channels.items c.self.inside.capacities.items c.args.c c.retire.new.self
    c.index_mut-channel.result.now c.self.invariant (ap (λ x. x.capacity) c.retire.ensures.after)
    c.index_mut-channel.ensures.value

pub returns-clause-more : goal.returns-clause-more
returns-clause-more g c before ports so_far fresh =
    let t = c.args.network.now in
    let s = c.args.self.now in
    let ch = c.retire.new.self in
    let value =
    element c.self.inside.channels.items s.channels c.args.c c.index_mut-channel.result.now (opened None false)
    (ap (λ x. x.channels) c.self.view_is) (omega (arith, c.requires.channel, c.requires.channels))
    c.index_mut-channel.ensures.value in
    let left = c.retire.ensures.after ∙ ap (λ x. retired ch.is_reserved x) value in
    let keep = subst (λ x. IsTrue x.is_reserved → IsTrue ch.is_reserved) value c.retire.ensures.reserved in
    let same = ap (λ x. x.waits) c.self.view_is in
    let woke =
    woken_same (is_wait (Full c.args.c)) (writer_of t c.args.c) _
    c.self.inside.waits s.waits c.wake_writer-told.new.self
    c.wake_writer-told.ensures.after
    refl same in
    EndSoFar-more t before s _ ports c.args.woken.now.items so_far c.args.c fresh
    (omega (arith, c.requires.channel, c.requires.channels)) ch left keep c.wake_writer-told.new.self woke
    (ap
    (λ (x : Machine).
    record x { channels = slice_set x.channels c.args.c ch; waits = c.wake_writer-told.new.self })
    c.self.view_is)
    c.add.new.processes.items
    (c.add.ensures.items
    ∙ ap (λ o. c.args.woken.now.items ++ option_to_list o)
    (told_same (is_wait (Full c.args.c)) (writer_of t c.args.c) _ c.self.inside.waits s.waits c.wake_writer-told.result
    c.wake_writer-told.ensures.who refl same
    ∙ writer_still_waits t before.waits s.waits c.args.c ports so_far.waits fresh)
    ∙ ap (λ xs. c.args.woken.now.items ++ xs) (list_of_one (waiting_writer t before.waits) c.args.c))
