use Rattle.kpn_machine.proofs.Common.{ap, with_closed}
use Rattle.kpn_machine.proofs.Calls.{Made-closed}
use Rattle.kpn_machine.proofs.Due.{Legal-closed}
use Rattle.kpn_machine.proofs.Running.{IsRun-next}
use Rattle.kpn_machine.proofs.machine.Machine.close.Goals as goal

pub returns : goal.returns
returns g c =
    let t = c.args.network.now in
    let s = c.args.self.now in
    let made =
    Made-closed t s c.requires.shape c.args.c c.requires.channel _ (ap (λ x. with_closed c.args.c x) c.self.view_is) in
    record {
      changes = made.changes;
      shape = made.shape;
      run = λ H run owes. IsRun-next t c.known.ensures H _ s _ run
          (Legal-closed t c.known.ensures H s run owes c.args.c c.requires.channel c.requires.source c.requires.open)
          made.changes made.shape;
    }
