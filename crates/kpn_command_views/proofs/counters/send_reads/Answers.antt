-- One read more.
use Rattle.kpn_command_views.proofs.Common.{drop, drop_of_length-le, ap, rules, arith, string_bytes, read_lines}
use Rattle.kpn_command_views.proofs.TimelineLines.{reads_next}
use Rattle.kpn_command_views.proofs.GoingOut.{none_sent, step, with_nothing, nothing_to_come}
use Rattle.kpn_command_views.proofs.counters.send_reads.Goals as goal

pub loop-tick-init : goal.loop-tick-init
loop-tick-init g c = none_sent _ _

pub loop-tick-preserved : goal.loop-tick-preserved
loop-tick-preserved g c =
    step _ _ _ (string_bytes c.loop-tick.text)
    (read_lines c.args.label.now c.loop-tick.left (drop c.loop-tick.tick-index c.args.reads.now)) _ _ _ _
    c.loop-tick.invariant
    (reads_next c.args.label.now c.loop-tick.left c.saturating_sub-left.result c.args.reads.now c.loop-tick.tick-index 0
    (string_bytes c.loop-tick.text) (string_bytes c.push_counter.new.text) (search rules)
    c.saturating_sub-left.ensures c.in_ok-push_counter.ensures)
    (with_nothing _ _ _ _ c.in_ok-send_if_long.ensures)

pub returns : goal.returns
returns g c =
    nothing_to_come _ _ _ _ _ c.loop-tick.invariant
    (ap (read_lines c.args.label.now c.loop-tick.left) (drop_of_length-le c.args.reads.now (omega arith)))
