use Rattle.kpn_machine.specs.Machine.{channel_in}
use Rattle.kpn_machine.proofs.Numbered.{one_more}
use Rattle.kpn_book.proofs.view.copied_journals.Goals as goal

pub channels-preserved : goal.channels-preserved
channels-preserved g c =
    one_more (λ k. (channel_in c.args.machine.now k).journal) c.channels.c c.channels.journals _
    c.channels.invariant (search Rattle.std.proofs.Common.rules)
