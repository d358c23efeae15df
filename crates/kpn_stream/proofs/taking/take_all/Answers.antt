use Rattle.kpn_stream.proofs.Common.{rules, ◌≡◌, ◌<◌, ◌≤◌, length, None, sym, ap, ◌∙◌, subst, arith, is_sink, end_numbers, IsSinkTaken, Serves}
use Rattle.kpn_book.proofs.Ends.{sink_there}
use Rattle.kpn_stream.proofs.Going.{none_of, serves-refl, serves-trans}
use Rattle.kpn_stream.proofs.Handling.{listed, one_more_end, all_ends}
use Rattle.kpn_stream.proofs.taking.take_all.Goals as goal

pub each-init : goal.each-init
each-init g c = record {
  serves = serves-refl g.K.Sinks.takes g.K.Sinks.flushes c.args.limits.now c.args.book.now c.args.sinks.now;
  ends = c.requires;
  taken = λ j less. absurd (omega arith);
}

pub take_each-ended-requires-clause-sink : goal.take_each-ended-requires-clause-sink
take_each-ended-requires-clause-sink g c =
    let items = c.args.ends.now.sinks.items in
    let below : c.each.i < length items = search rules in
    (listed is_sink c.each.book.tables items c.each.i c.index.result.now c.each.invariant.ends below
    c.index.ensures).0

pub returns-then-is_some-clause-serves : goal.returns-then-is_some-clause-serves
returns-then-is_some-clause-serves g c =
    serves-trans g.K.Sinks.takes g.K.Sinks.flushes c.args.limits.now c.take_each-ended.result c.args.book.now
    c.each.book
    c.take_each-ended.new.book c.args.sinks.now c.each.sinks c.take_each-ended.new.sinks c.each.invariant.serves
    c.take_each-ended.ensures.serves

pub each-preserved : goal.each-preserved
each-preserved g c =
    let on : c.take_each-ended.result ≡ None =
    none_of c.take_each-ended.result (sym c.is_some.ensures ∙ c.if-is_some.false) in
    record {
      serves =
          serves-trans g.K.Sinks.takes g.K.Sinks.flushes c.args.limits.now None c.args.book.now c.each.book
          c.take_each-ended.new.book c.args.sinks.now c.each.sinks c.take_each-ended.new.sinks c.each.invariant.serves
          (subst
          (λ e.
          Serves g.K.Sinks.takes g.K.Sinks.flushes c.args.limits.now e c.each.book c.take_each-ended.new.book
          c.each.sinks
          c.take_each-ended.new.sinks)
          on c.take_each-ended.ensures.serves);
      ends = c.each.invariant.ends ∙ ap (end_numbers is_sink) (sym c.take_each-ended.ensures.serves.besides.tables);
      taken =
          one_more_end (IsSinkTaken c.take_each-ended.new.book.history) c.args.ends.now.sinks.items c.each.i
          c.index.result.now (search rules) c.index.ensures
          (λ j less. c.take_each-ended.ensures.serves.stay_taken _ (c.each.invariant.taken j less))
          (c.take_each-ended.ensures.taken on);
    }

pub returns-clause-taken : goal.returns-clause-taken
returns-clause-taken g c = λ _ d is.
    let items = c.args.ends.now.sinks.items in
    let past : length items ≤ c.each.i = search rules in
    all_ends is_sink c.each.book.tables (IsSinkTaken c.each.book.history) items c.each.i c.each.invariant.ends past
    c.each.invariant.taken d (sink_there c.each.book.tables d is) is
