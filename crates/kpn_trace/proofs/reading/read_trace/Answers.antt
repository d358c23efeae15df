-- The line at which it stops is the first bad one; each other line is that of the event that is pushed for it.
use Rattle.std.proofs.Common.{◌≡◌, ◌++◌, ◌∷◌, [], All, length, sym, ap, ◌∙◌, subst, arith}
use Rattle.kpn_trace.proofs.Common.{common_steps, nat_tests, All-push, IsInRange, trace_text}
use Rattle.kpn_trace.proofs.Traces.{one_more_read}
use Rattle.kpn_trace.proofs.reading.read_trace.Goals as goal

pub returns-in_default-first_event-clause-refused : goal.returns-in_default-first_event-clause-refused
returns-in_default-first_event-clause-refused g c = record {
  version = c.in-Some.head.version;
  policy = c.in-Some.head.policy;
  growth = c.in-Some.head.growth;
  head = c.in-Some.ensures.0;
  before = c.loop-rest.events.items;
  in_range = c.loop-rest.invariant.in_range;
  rest = c.loop-rest.rest.now;
  whole = c.loop-rest.invariant.whole;
  is_something = λ e. let none = ap length e in grind (arith, nat_tests);
  spells_none = c.in_default-first_event.ensures;
  counted = omega (arith, c.len.ensures, c.lines.ensures);
}

pub loop-rest-preserved : goal.loop-rest-preserved
loop-rest-preserved g c =
    let version = c.in-Some.head.version in
    let policy = c.in-Some.head.policy in
    let growth = c.in-Some.head.growth in
    let event = c.in-Some-first_event.event in
    let before = c.loop-rest.events.items in
    let pushed : c.push.new.self.items ≡ before ++ event ∷ [] = grind (arith, common_steps) in
    let first = c.in-Some-first_event.ensures in
    record {
      whole =
          one_more_read version policy growth c.args.bytes.now before c.loop-rest.rest.now
          c.in-Some-first_event.after.now event
          c.loop-rest.invariant.whole first.0
          ∙ ap (λ es. trace_text version policy growth es ++ c.in-Some-first_event.after.now) (sym pushed);
      in_range = subst (All (IsInRange version)) (sym pushed)
          (All-push (IsInRange version) before event c.loop-rest.invariant.in_range first.1);
    }
