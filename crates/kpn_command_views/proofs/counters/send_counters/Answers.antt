-- One write more, with the reads before it.
use Rattle.kpn_command_views.proofs.Common.{◌+◌, drop, refl, ap, arith, rules, string_bytes, counter_lines}
use Rattle.kpn_command_views.proofs.TimelineLines.{write_next}
use Rattle.kpn_command_views.proofs.GoingOut.{none_sent, step, counters_done}
use Rattle.kpn_command_views.proofs.counters.send_counters.Goals as goal

pub loop-tick-init : goal.loop-tick-init
loop-tick-init g c = (none_sent _ _, omega arith, omega arith)

pub loop-tick-preserved : goal.loop-tick-preserved
loop-tick-preserved g c =
    let was = c.loop-tick.invariant in
    let less = c.saturating_sub-unread.ensures in
    let rest =
    counter_lines c.args.label.now c.loop-tick.unread (drop c.loop-tick.tick-index c.args.written.now)
    (drop c.loop-tick.place c.args.reads.now) in
    let next =
    write_next c.args.label.now c.loop-tick.unread (c.saturating_sub-unread.result + 1) c.args.written.now
    c.args.reads.now c.loop-tick.place c.loop-tick.tick-index 0 c.in_ok-gone.gone (string_bytes c.loop-tick.text) _
    (search rules) was.2 c.in_ok-gone.ensures.gone c.in_ok-gone.ensures.within (ap (λ n. n + 1) less) refl in (
      step _ _ _ (string_bytes c.loop-tick.text) rest _ _ _ _ was.0 next.0 c.in_ok-gone.ensures.text,
      omega (arith, less, was.1),
      next.1,
    )

pub returns : goal.returns
returns g c =
    let was = c.loop-tick.invariant in
    counters_done _ _ _ _ _ _ c.args.label.now c.loop-tick.unread c.loop-tick.tick-index c.loop-tick.place
    c.args.written.now c.args.reads.now was.0 (omega arith) was.2 c.in_ok-send_reads.ensures
