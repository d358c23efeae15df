use Rattle.kpn_stream.proofs.Common.{rules, ◌≡◌, true, Ok, Err, Some, None, sym, ap, ◌∙◌, subst, inl, both_ways, channel_at, is_sink, next_item, channel_in, Happens, happens_tables, SinkFailed, end_numbers}
use Rattle.kpn_history.specs.declared.event.Event.TheVariants as event
use Rattle.kpn_stream.specs.declared.faults.SinkFault.TheVariants.{NoMemory}
use Rattle.kpn_stream.proofs.Going.{serves-refl, serves-trans}
use Rattle.kpn_stream.proofs.Handling.{if_done, if_refused, serves_item, serves_in_vain, serves_not, handled_taken}
use Rattle.kpn_stream.proofs.Moments.{taken_if_none, some_unread, less_unread}
use Rattle.kpn_stream.proofs.taking.put_each.Goals as goal

pub items-init : goal.items-init
items-init g c = record {
  serves = serves-refl g.K.Sinks.takes g.K.Sinks.flushes c.args.limits.now c.args.book.now c.args.sinks.now;
  ends = c.requires.ends;
  sink = c.requires.sink;
}

pub returns-in-Err-clause-serves : goal.returns-in-Err-clause-serves
returns-in-Err-clause-serves g c =
    let answer : g.K.Sinks.takes c.items.sinks c.args.c c.in-Some.item (Err c.in-Err.fault) c.put.new.self =
    search rules in
    serves-trans g.K.Sinks.takes g.K.Sinks.flushes c.args.limits.now c.handle.result c.args.book.now c.items.book
    c.handle.new.book c.args.sinks.now c.items.sinks c.put.new.self c.items.invariant.serves
    (serves_not g.K.Sinks.takes g.K.Sinks.flushes c.args.limits.now c.args.c c.in-Some.item c.in-Err.fault
    c.handle.result
    c.items.book c.handle.new.book c.items.sinks c.put.new.self
    (λ given. both_ways c.has_given.result c.if-has_given.false (c.has_given.ensures.1 given)) answer c.handle.ensures)

pub returns-in-Err-clause-all : goal.returns-in-Err-clause-all
returns-in-Err-clause-all g c =
    λ on. inl (handled_taken c.args.limits.now c.args.c c.in-Err.fault c.handle.result c.items.book c.handle.new.book
    c.handle.ensures on)

pub items-preserved : goal.items-preserved
items-preserved g c =
    let answer : g.K.Sinks.takes c.items.sinks c.args.c c.in-Some.item (Ok tt) c.put.new.self = search rules in
    let took : Happens (event.Take c.args.c c.in-Some.item) c.items.book c.take.new.book =
    if_done c.take.result _ (c.take.ensures.took c.in-Some.item (sym c.in-Some.ensures))
    (sym c.is_err.ensures.value ∙ c.if-is_err.false) in
    let same = happens_tables (event.Take c.args.c c.in-Some.item) c.items.book c.take.new.book took in
    record {
      serves =
          serves-trans g.K.Sinks.takes g.K.Sinks.flushes c.args.limits.now None c.args.book.now c.items.book
          c.take.new.book c.args.sinks.now c.items.sinks c.put.new.self c.items.invariant.serves
          (serves_item g.K.Sinks.takes g.K.Sinks.flushes c.args.limits.now c.args.c c.in-Some.item c.items.book
          c.take.new.book c.items.sinks c.put.new.self
          (λ given. both_ways c.has_given.result c.if-has_given.false (c.has_given.ensures.1 given)) answer took);
      ends = c.items.invariant.ends ∙ ap (end_numbers is_sink) (sym same);
      sink = subst (λ t. is_sink (channel_at t c.args.c) ≡ true) (sym same) c.items.invariant.sink;
    }

pub returns-then-is_err-clause-serves : goal.returns-then-is_err-clause-serves
returns-then-is_err-clause-serves g c =
    let answer : g.K.Sinks.takes c.items.sinks c.args.c c.in-Some.item (Ok tt) c.put.new.self = search rules in
    serves-trans g.K.Sinks.takes g.K.Sinks.flushes c.args.limits.now (Some (SinkFailed c.args.c NoMemory))
    c.args.book.now c.items.book c.take.new.book c.args.sinks.now c.items.sinks c.put.new.self c.items.invariant.serves
    (serves_in_vain g.K.Sinks.takes g.K.Sinks.flushes c.args.limits.now c.args.c c.in-Some.item c.items.book
    c.take.new.book c.items.sinks c.put.new.self
    (λ given. both_ways c.has_given.result c.if-has_given.false (c.has_given.ensures.1 given)) answer
    (if_refused c.take.result _ c.take.ensures.as_before (sym c.is_err.ensures.value ∙ c.if-is_err.true)))

pub items-smaller : goal.items-smaller
items-smaller g c =
    let took : Happens (event.Take c.args.c c.in-Some.item) c.items.book c.take.new.book =
    if_done c.take.result _ (c.take.ensures.took c.in-Some.item (sym c.in-Some.ensures))
    (sym c.is_err.ensures.value ∙ c.if-is_err.false) in
    less_unread c.args.c c.in-Some.item c.items.book c.take.new.book took
    (some_unread c.items.book c.known.ensures c.args.c c.in-Some.item c.items.invariant.sink (sym c.in-Some.ensures))

pub returns-clause-all : goal.returns-clause-all
returns-clause-all g c = λ _.
    let none : next_item (channel_in c.items.book.machine c.args.c) ≡ None = search rules in
    inl (taken_if_none c.items.book c.known-2.ensures c.args.c c.items.invariant.sink none)
