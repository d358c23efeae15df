use Rattle.kpn_stream.proofs.Common.{◌≡◌, true, sym, ap, ◌∙◌, subst, inl, inr, both_ways, channel_at, is_sink, end_numbers}
use Rattle.kpn_book.proofs.Ends.{sink_there}
use Rattle.kpn_stream.proofs.Going.{none_of, serves-trans, serves_on}
use Rattle.kpn_stream.proofs.taking.take_each.Goals as goal

pub has_given-requires : goal.has_given-requires
has_given-requires g c =
    sink_there c.put_each-ended.new.book.tables c.args.c
    (subst (λ t. is_sink (channel_at t c.args.c) ≡ true) (sym c.put_each-ended.ensures.serves.besides.tables)
    c.requires.sink)

pub returns-then-not-has_given-clause-serves : goal.returns-then-not-has_given-clause-serves
returns-then-not-has_given-clause-serves g c =
    serves_on g.K.Sinks.takes g.K.Sinks.flushes c.args.limits.now c.put_each-ended.result c.args.book.now
    c.put_each-ended.new.book c.args.sinks.now c.put_each-ended.new.sinks (sym c.is_some.ensures ∙ c.if-is_some.false)
    c.put_each-ended.ensures.serves

pub returns-then-not-has_given-clause-taken : goal.returns-then-not-has_given-clause-taken
returns-then-not-has_given-clause-taken g c = λ _.
    elim (c.put_each-ended.ensures.all (none_of c.put_each-ended.result (sym c.is_some.ensures ∙ c.if-is_some.false))) [
      | inl taken ↦ taken
      | inr given ↦ absurd (both_ways c.has_given.result c.if-not-has_given.true (c.has_given.ensures.1 given))
    ]

pub finish-requires-clause-ends : goal.finish-requires-clause-ends
finish-requires-clause-ends g c =
    c.requires.ends ∙ ap (end_numbers is_sink) (sym c.put_each-ended.ensures.serves.besides.tables)

pub finish-requires-clause-sink : goal.finish-requires-clause-sink
finish-requires-clause-sink g c =
    subst (λ t. is_sink (channel_at t c.args.c) ≡ true) (sym c.put_each-ended.ensures.serves.besides.tables)
    c.requires.sink

pub finish-requires-clause-given : goal.finish-requires-clause-given
finish-requires-clause-given g c = c.has_given.ensures.0 c.if-not-has_given.false

pub returns-clause-serves : goal.returns-clause-serves
returns-clause-serves g c =
    serves-trans g.K.Sinks.takes g.K.Sinks.flushes c.args.limits.now c.finish.result c.args.book.now
    c.put_each-ended.new.book
    c.finish.new.book c.args.sinks.now c.put_each-ended.new.sinks c.finish.new.sinks
    (serves_on g.K.Sinks.takes g.K.Sinks.flushes c.args.limits.now c.put_each-ended.result c.args.book.now
    c.put_each-ended.new.book c.args.sinks.now c.put_each-ended.new.sinks (sym c.is_some.ensures ∙ c.if-is_some.false)
    c.put_each-ended.ensures.serves)
    c.finish.ensures.serves
