use Rattle.kpn_machine.proofs.Common.{◌≡◌, false, rules, sym, ap, ◌∙◌, subst, writer_of, AreWaits, is_marked, is_wait, waiting_at, free_now}
use Rattle.kpn_net.specs.declared.wait.Wait.TheVariants.{Full}
use Rattle.kpn_machine.proofs.Marking.{no_writer, unmarked_full}
use Rattle.kpn_machine.proofs.Woken.{below, woken_same, told_same}
use Rattle.kpn_machine.proofs.machine.marked_waits.MarkedWaits.wake_writer.Goals as goal

pub returns-then-not-is_marked-clause-who : goal.returns-then-not-is_marked-clause-who
returns-then-not-is_marked-clause-who g c =
    let no : is_marked c.self.inside.full.items c.args.c ≡ false = search rules in
    sym
    (ap (λ ws. waiting_at (is_wait (Full c.args.c)) ws (writer_of c.args.network.now c.args.c)) (sym c.self.view_is)
    ∙ no_writer c.self.inside.waits c.self.inside.full.items c.self.inside.empty.items c.self.invariant c.args.c no
    (writer_of c.args.network.now c.args.c))

pub returns-then-not-is_marked-clause-after : goal.returns-then-not-is_marked-clause-after
returns-then-not-is_marked-clause-after g c =
    ap (λ o. free_now o c.args.self.now) (returns-then-not-is_marked-clause-who g c)

pub wake-requires : goal.wake-requires
wake-requires g c =
    below c.args.network.now c.self.inside.waits
    (subst (λ ws. AreWaits c.args.network.now ws) (sym c.self.view_is) c.requires.waits) (Full c.args.c)
    c.writer_of.result c.writer_of.ensures

pub invariant_of-self : goal.invariant_of-self
invariant_of-self g c =
    rw (c.wake.ensures.after, c.writer_of.ensures, c.set_mark.ensures)
    (unmarked_full c.self.inside.waits c.self.inside.full.items c.self.inside.empty.items c.self.invariant
    c.args.network.now (subst (λ ws. AreWaits c.args.network.now ws) (sym c.self.view_is) c.requires.waits) c.args.c)

pub returns-clause-who : goal.returns-clause-who
returns-clause-who g c =
    told_same (is_wait (Full c.args.c)) c.writer_of.result _ c.self.inside.waits c.args.self.now c.wake.result
    c.wake.ensures.who c.writer_of.ensures c.self.view_is

pub returns-clause-after : goal.returns-clause-after
returns-clause-after g c =
    woken_same (is_wait (Full c.args.c)) c.writer_of.result _ c.self.inside.waits c.args.self.now c.wake.new.waits
    c.wake.ensures.after c.writer_of.ensures c.self.view_is
