-- The wait of one process more.
use Rattle.kpn_command_views.proofs.Common.{◌++◌, ap, ◌∙◌, string_bytes, Wait, wait_at, shown, last_wait}
use Rattle.kpn_command_views.proofs.TimelineLines.{one_more}
use Rattle.kpn_command_views.proofs.timeline.push_last_waits.Goals as goal

pub loop-p-preserved : goal.loop-p-preserved
loop-p-preserved c =
    let names = c.args.document.now.names.channels in
    let s = shown c.args.clocks.now in
    let start = string_bytes c.loop-p.text in
    one_more (λ p. last_wait names s p (wait_at c.args.waits.now p)) c.loop-p.p (string_bytes c.args.text.now) start
    (string_bytes c.push_last_wait.new.text) c.loop-p.invariant
    (c.in_ok-push_last_wait.ensures
    ∙ ap (λ (wait : Wait). start ++ last_wait names s c.loop-p.p wait) c.wait_at.ensures)
