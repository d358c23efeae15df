use Rattle.kpn_machine.proofs.Common.{ap, ◌∙◌, slice_set, Empty, with_waits}
use Rattle.kpn_machine.proofs.Calls.{Made-wait_empty}
use Rattle.kpn_machine.proofs.Due.{Legal-wait_empty}
use Rattle.kpn_machine.proofs.Ports.{reads_below, reads_own}
use Rattle.kpn_machine.proofs.Running.{IsRun-next}
use Rattle.kpn_machine.proofs.machine.Machine.wait_on_empty.Goals as goal

pub returns : goal.returns
returns g c =
    let t = c.args.network.now in
    let s = c.args.self.now in
    let there = reads_below t c.known.ensures s c.args.p c.requires.process c.args.c c.requires.reads in
    let own = reads_own t c.known.ensures s c.args.p c.requires.process c.args.c c.requires.reads in
    let made =
    Made-wait_empty t s c.requires.shape c.args.p c.args.c c.requires.process own _
    (ap (λ x. with_waits c.wait_on_empty.new.self x) c.self.view_is
    ∙ ap (λ ws. with_waits ws s)
    (c.wait_on_empty.ensures ∙ ap (λ x. slice_set x.waits c.args.p (Empty c.args.c)) c.self.view_is)) in
    record {
      changes = made.changes;
      shape = made.shape;
      run = λ H run owes. IsRun-next t c.known.ensures H _ s _ run
          (Legal-wait_empty t c.known.ensures H s run owes c.args.p c.requires.process c.requires.free c.args.c there
          c.requires.reads c.requires.ready)
          made.changes made.shape;
    }
