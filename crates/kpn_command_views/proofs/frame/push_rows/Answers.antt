-- One row more.
use Rattle.kpn_command_views.proofs.Common.{string_bytes, row}
use Rattle.kpn_command_views.proofs.TimelineLines.{one_more}
use Rattle.kpn_command_views.proofs.frame.push_rows.Goals as goal

pub loop-p-preserved : goal.loop-p-preserved
loop-p-preserved c =
    one_more (row c.args.document.now.names.instances c.args.scale) c.loop-p.p (string_bytes c.args.text.now)
    (string_bytes c.loop-p.text) (string_bytes c.push_row.new.text) c.loop-p.invariant c.in_ok-push_row.ensures
