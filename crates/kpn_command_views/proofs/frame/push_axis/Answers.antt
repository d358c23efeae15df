-- One tick more.
use Rattle.kpn_command_views.proofs.Common.{◌+◌, string_bytes, axis_line}
use Rattle.kpn_command_views.proofs.TimelineLines.{one_more}
use Rattle.kpn_command_views.proofs.frame.push_axis.Goals as goal

pub loop-k-preserved : goal.loop-k-preserved
loop-k-preserved c =
    one_more (λ k. axis_line c.args.scale c.args.processes (c.args.scale.front + k)) c.loop-k.k
    (string_bytes c.args.text.now) (string_bytes c.loop-k.text) (string_bytes c.push_axis_line.new.text)
    c.loop-k.invariant c.in_ok-push_axis_line.ensures
