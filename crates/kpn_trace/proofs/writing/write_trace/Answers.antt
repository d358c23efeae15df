-- One more line is written; at the end they are all.
use Rattle.kpn_trace.proofs.Common.{◌+◌, take, append-nil, sym, ◌∙◌, subst, arith, take_all, IsTrue, Appends, slice_get-get_or, Close, Two, head_text, trace_text}
use Rattle.kpn_trace.proofs.Traces.{one_more_written}
use Rattle.kpn_trace.proofs.writing.write_trace.Goals as goal
use Rattle.kpn_trace.proofs.writing.write_trace.Goals.{in-Some+in_ok-event_line, in_default}

pub loop-place-init : goal.loop-place-init
loop-place-init g c =
    let contents = g.W.Write.contents in
    let head = head_text Two c.args.policy c.args.growth in
    subst (Appends (contents c.args.writer.now) (contents c.write_head.new.writer)) (sym (append-nil head))
    c.in_ok-write_head.ensures

pub loop-place-preserved : goal.loop-place-preserved
loop-place-preserved g c =
    let kept : IsTrue c.args.history.now.is_kept = cc (c.is_kept.ensures, c.if-not-is_kept.false) in
    let long = c.len-place-end.ensures kept in
    let found_at = c.at.ensures kept in
    let events = c.args.history.now.events in
    let contents = g.W.Write.contents in
    elim c.match-at.branch [
      | in-Some+in_ok-event_line w ↦
          subst
          (λ wr. Appends (contents c.args.writer.now) (contents wr)
          (trace_text Two c.args.policy c.args.growth (take (c.loop-place.place + 1) events)))
          (sym w.writer-is)
          (one_more_written Two c.args.policy c.args.growth (contents c.args.writer.now) (contents c.loop-place.writer)
          (contents w.event_line.new.writer) events c.loop-place.place w.in-Some.event
          (sym found_at ∙ w.in-Some.is) c.loop-place.invariant w.in_ok-event_line.ensures)
      | in_default w ↦
          let found = slice_get-get_or events c.loop-place.place (Close 0) (omega arith) in
          absurd (cc (found, found_at, w.in_default.is))
    ]

pub returns-clause-text : goal.returns-clause-text
returns-clause-text g c =
    let kept : IsTrue c.args.history.now.is_kept = cc (c.is_kept.ensures, c.if-not-is_kept.false) in
    let long = c.len-place-end.ensures kept in
    subst (λ t. Appends (g.W.Write.contents c.args.writer.now) (g.W.Write.contents c.loop-place.writer)
    (trace_text Two c.args.policy c.args.growth t))
    (take_all c.loop-place.place c.args.history.now.events (omega arith)) c.loop-place.invariant
