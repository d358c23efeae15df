use Rattle.std.proofs.Common.{rules, ◌≡◌, ◌<◌, ◌≤◌, length, take, take_all, [], ◌∷◌, ◌++◌, None, refl, sym, ap, ◌∙◌, subst}
use Rattle.kpn_stream.proofs.Common.{take_more, is_sink, AreFlushed, end_numbers, Serves}
use Rattle.kpn_stream.proofs.Going.{none_of, serves-refl, serves-trans, flushed_more}
use Rattle.kpn_stream.proofs.Handling.{listed}
use Rattle.kpn_stream.proofs.taking.flush_all.Goals as goal

pub sinks-init : goal.sinks-init
sinks-init g c = record {
  serves = serves-refl g.K.Sinks.takes g.K.Sinks.flushes c.args.limits.now c.args.book.now c.args.sinks.now;
  flushed = (refl, refl);
  ends = c.requires;
}

pub flush-ended-requires-clause-sink : goal.flush-ended-requires-clause-sink
flush-ended-requires-clause-sink g c =
    let items = c.args.ends.now.sinks.items in
    let below : c.sinks.i < length items = search rules in
    (listed is_sink c.sinks.book.tables items c.sinks.i c.index.result.now c.sinks.invariant.ends below
    c.index.ensures).0

pub returns-then-is_some-clause-serves : goal.returns-then-is_some-clause-serves
returns-then-is_some-clause-serves g c =
    serves-trans g.K.Sinks.takes g.K.Sinks.flushes c.args.limits.now c.flush-ended.result c.args.book.now c.sinks.book
    c.flush-ended.new.book c.args.sinks.now c.sinks.sinks c.flush-ended.new.sinks c.sinks.invariant.serves
    c.flush-ended.ensures.serves

pub sinks-preserved : goal.sinks-preserved
sinks-preserved g c =
    let on : c.flush-ended.result ≡ None =
    none_of c.flush-ended.result (sym c.is_some.ensures ∙ c.if-is_some.false) in
    record {
      serves =
          serves-trans g.K.Sinks.takes g.K.Sinks.flushes c.args.limits.now None c.args.book.now c.sinks.book
          c.flush-ended.new.book c.args.sinks.now c.sinks.sinks c.flush-ended.new.sinks c.sinks.invariant.serves
          (subst
          (λ e.
          Serves g.K.Sinks.takes g.K.Sinks.flushes c.args.limits.now e c.sinks.book c.flush-ended.new.book c.sinks.sinks
          c.flush-ended.new.sinks)
          on c.flush-ended.ensures.serves);
      ends = c.sinks.invariant.ends ∙ ap (end_numbers is_sink) (sym c.flush-ended.ensures.serves.besides.tables);
      flushed =
          let items = c.args.ends.now.sinks.items in
          let below : c.sinks.i < length items = search rules in
          subst
          (λ xs.
          AreFlushed g.K.Sinks.flushes xs c.args.book.now.history c.args.sinks.now c.flush-ended.new.book.history
          c.flush-ended.new.sinks)
          (ap (λ x. take c.sinks.i items ++ x ∷ []) c.index.ensures
          ∙ sym (take_more items c.sinks.i c.index.result.now below))
          (flushed_more g.K.Sinks.flushes (take c.sinks.i items) c.index.result.now c.args.book.now.history
          c.sinks.book.history c.flush-ended.new.book.history c.args.sinks.now c.sinks.sinks c.flush-ended.new.sinks
          c.sinks.invariant.flushed (c.flush-ended.ensures.flushed on));
    }

pub returns-clause-flushed : goal.returns-clause-flushed
returns-clause-flushed g c = λ _.
    let items = c.args.ends.now.sinks.items in
    let past : length items ≤ c.sinks.i = search rules in
    subst
    (λ xs.
    AreFlushed g.K.Sinks.flushes xs c.args.book.now.history c.args.sinks.now c.sinks.book.history c.sinks.sinks)
    (take_all c.sinks.i items past) c.sinks.invariant.flushed
