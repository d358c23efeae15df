-- One track more.
use Rattle.kpn_command_views.proofs.Common.{◌++◌, ap, ◌∙◌, string_bytes, name_at, track_line}
use Rattle.kpn_command_views.proofs.TimelineLines.{one_more}
use Rattle.kpn_command_views.proofs.timeline.push_tracks.Goals as goal

pub loop-p-preserved : goal.loop-p-preserved
loop-p-preserved c =
    let start = string_bytes c.loop-p.text in
    one_more (λ p. track_line p (name_at c.args.document.now.names.instances p)) c.loop-p.p
    (string_bytes c.args.text.now) start (string_bytes c.push_track.new.text) c.loop-p.invariant
    (c.in_ok-push_track.ensures ∙ ap (λ name. start ++ track_line c.loop-p.p name) c.instance_name.ensures)
