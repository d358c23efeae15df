use Rattle.kpn_machine.proofs.Common.{ap, ◌∙◌, slice_set, with_waits}
use Rattle.kpn_net.specs.declared.wait.Wait.TheVariants.{Full}
use Rattle.kpn_machine.proofs.Calls.{Made-wait_full}
use Rattle.kpn_machine.proofs.Due.{Legal-wait_full}
use Rattle.kpn_machine.proofs.Ports.{writes_below, writes_own}
use Rattle.kpn_machine.proofs.Running.{IsRun-next}
use Rattle.kpn_machine.proofs.machine.Machine.wait_on_full.Goals as goal

pub returns : goal.returns
returns g c =
    let t = c.args.network.now in
    let s = c.args.self.now in
    let there = writes_below t c.known.ensures s c.args.p c.requires.process c.args.c c.requires.writes.0
    c.requires.writes.1 in
    let own = writes_own t c.known.ensures s c.args.p c.requires.process c.args.c c.requires.writes.0
    c.requires.writes.1 in
    let made =
    Made-wait_full t s c.requires.shape c.args.p c.args.c c.requires.process own c.requires.reserved _
    (ap (λ x. with_waits c.wait_on_full.new.self x) c.self.view_is
    ∙ ap (λ ws. with_waits ws s)
    (c.wait_on_full.ensures ∙ ap (λ x. slice_set x.waits c.args.p (Full c.args.c)) c.self.view_is)) in
    record {
      changes = made.changes;
      shape = made.shape;
      run = λ H run owes. IsRun-next t c.known.ensures H _ s _ run
          (Legal-wait_full t c.known.ensures H s run owes c.args.p c.requires.process c.requires.free c.args.c
          c.requires.writes.0 there c.requires.writes.1 c.requires.ready)
          made.changes made.shape;
    }
