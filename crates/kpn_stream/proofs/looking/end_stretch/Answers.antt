use Rattle.kpn_stream.proofs.Common.{rules, ℕ, List, ◌≡◌, ◌<◌, length, None, sym, ap, ◌∙◌, subst, is_source, end_numbers, StreamGoesOn, IsStepless}
use Rattle.kpn_stream.proofs.Going.{none_of, goes_on-refl, goes_on-trans, serves_goes_on, serves_on, serves_taken, reads_at_hand, at_hand_taken}
use Rattle.kpn_stream.proofs.Handling.{listed}
use Rattle.kpn_stream.proofs.Seeing.{stepless-refl, stepless-trans, stepless_serves, stepless_at_hand}
use Rattle.kpn_stream.proofs.looking.end_stretch.Goals as goal

pub returns-then-is_some-clause-goes_on : goal.returns-then-is_some-clause-goes_on
returns-then-is_some-clause-goes_on g c =
    serves_goes_on g.S.Sources.gives g.S.Sources.looks g.S.Sources.at_hand g.K.Sinks.takes g.K.Sinks.flushes
    c.args.limits.now
    c.flush_all-ended.result c.args.book.now c.flush_all-ended.new.book c.args.sources.now c.args.sinks.now
    c.flush_all-ended.new.sinks c.flush_all-ended.ensures.serves

pub sources-init : goal.sources-init
sources-init g c = record {
  goes_on =
      goes_on-refl g.S.Sources.gives g.S.Sources.looks g.S.Sources.at_hand g.K.Sinks.takes g.K.Sinks.flushes
      c.args.limits.now
      c.flush_all-ended.new.book c.args.sources.now c.flush_all-ended.new.sinks;
  sources =
      c.requires.sources ∙ ap (end_numbers is_source) (sym c.flush_all-ended.ensures.serves.besides.tables);
  taken =
      serves_taken g.K.Sinks.takes g.K.Sinks.flushes c.args.limits.now c.flush_all-ended.result c.args.book.now
      c.flush_all-ended.new.book c.args.sinks.now c.flush_all-ended.new.sinks c.flush_all-ended.ensures.serves
      c.requires.taken;
  stepless = stepless-refl c.flush_all-ended.new.book;
}

pub read_at_hand-ended-requires-clause-source : goal.read_at_hand-ended-requires-clause-source
read_at_hand-ended-requires-clause-source g c =
    let items = c.args.ends.now.sources.items in
    let below : c.sources.i < length items = search rules in
    (listed is_source c.sources.book.tables items c.sources.i c.index.result.now c.sources.invariant.sources below
    c.index.ensures).0

pub returns-then-is_some-2-clause-goes_on : goal.returns-then-is_some-2-clause-goes_on
returns-then-is_some-2-clause-goes_on g c =
    goes_on-trans g.S.Sources.gives g.S.Sources.looks g.S.Sources.at_hand g.K.Sinks.takes g.K.Sinks.flushes
    c.args.limits.now
    c.read_at_hand-ended.result c.args.book.now c.flush_all-ended.new.book c.read_at_hand-ended.new.book
    c.args.sources.now c.args.sources.now c.read_at_hand-ended.new.sources c.args.sinks.now
    c.flush_all-ended.new.sinks c.flush_all-ended.new.sinks
    (serves_goes_on g.S.Sources.gives g.S.Sources.looks g.S.Sources.at_hand g.K.Sinks.takes g.K.Sinks.flushes
    c.args.limits.now None
    c.args.book.now c.flush_all-ended.new.book c.args.sources.now c.args.sinks.now c.flush_all-ended.new.sinks
    (serves_on g.K.Sinks.takes g.K.Sinks.flushes c.args.limits.now c.flush_all-ended.result c.args.book.now
    c.flush_all-ended.new.book c.args.sinks.now c.flush_all-ended.new.sinks (sym c.is_some.ensures ∙ c.if-is_some.false)
    c.flush_all-ended.ensures.serves))
    (goes_on-trans g.S.Sources.gives g.S.Sources.looks g.S.Sources.at_hand g.K.Sinks.takes g.K.Sinks.flushes
    c.args.limits.now
    c.read_at_hand-ended.result c.flush_all-ended.new.book c.sources.book c.read_at_hand-ended.new.book
    c.args.sources.now c.sources.sources c.read_at_hand-ended.new.sources c.flush_all-ended.new.sinks
    c.flush_all-ended.new.sinks c.flush_all-ended.new.sinks c.sources.invariant.goes_on
    (reads_at_hand g.S.Sources.gives g.S.Sources.looks g.S.Sources.at_hand g.K.Sinks.takes g.K.Sinks.flushes
    c.args.limits.now
    c.index.result.now c.read_at_hand-ended.result c.sources.book c.read_at_hand-ended.new.book c.sources.sources
    c.read_at_hand-ended.new.sources c.flush_all-ended.new.sinks c.read_at_hand-ended.ensures))

pub sources-preserved : goal.sources-preserved
sources-preserved g c =
    let on : c.read_at_hand-ended.result ≡ None =
    none_of c.read_at_hand-ended.result (sym c.is_some-in-sources.ensures ∙ c.if-is_some-2.false) in
    let one =
    subst
    (λ e.
    StreamGoesOn g.S.Sources.gives g.S.Sources.looks g.S.Sources.at_hand g.K.Sinks.takes g.K.Sinks.flushes c.args.limits.now
    e c.sources.book
    c.read_at_hand-ended.new.book c.sources.sources c.read_at_hand-ended.new.sources c.flush_all-ended.new.sinks
    c.flush_all-ended.new.sinks)
    on
    (reads_at_hand g.S.Sources.gives g.S.Sources.looks g.S.Sources.at_hand g.K.Sinks.takes g.K.Sinks.flushes
    c.args.limits.now
    c.index.result.now c.read_at_hand-ended.result c.sources.book c.read_at_hand-ended.new.book c.sources.sources
    c.read_at_hand-ended.new.sources c.flush_all-ended.new.sinks c.read_at_hand-ended.ensures) in
    record {
      goes_on =
          goes_on-trans g.S.Sources.gives g.S.Sources.looks g.S.Sources.at_hand g.K.Sinks.takes g.K.Sinks.flushes
          c.args.limits.now None c.flush_all-ended.new.book c.sources.book c.read_at_hand-ended.new.book
          c.args.sources.now c.sources.sources c.read_at_hand-ended.new.sources c.flush_all-ended.new.sinks
          c.flush_all-ended.new.sinks c.flush_all-ended.new.sinks c.sources.invariant.goes_on one;
      sources = ◌∙◌ {A = List ℕ} c.sources.invariant.sources (ap (end_numbers is_source) (sym one.tables));
      taken =
          at_hand_taken g.S.Sources.gives g.S.Sources.looks g.S.Sources.at_hand c.index.result.now
          c.read_at_hand-ended.result c.sources.book c.read_at_hand-ended.new.book c.sources.sources
          c.read_at_hand-ended.new.sources c.read_at_hand-ended.ensures c.sources.invariant.taken;
      stepless =
          subst (λ e. IsStepless e c.flush_all-ended.new.book c.read_at_hand-ended.new.book) on
          (stepless-trans None c.read_at_hand-ended.result c.flush_all-ended.new.book c.sources.book
          c.read_at_hand-ended.new.book c.sources.invariant.stepless
          (stepless_at_hand g.S.Sources.gives g.S.Sources.looks g.S.Sources.at_hand c.index.result.now
          c.read_at_hand-ended.result c.sources.book c.read_at_hand-ended.new.book c.sources.sources
          c.read_at_hand-ended.new.sources c.read_at_hand-ended.ensures));
    }

pub returns-clause-goes_on : goal.returns-clause-goes_on
returns-clause-goes_on g c =
    goes_on-trans g.S.Sources.gives g.S.Sources.looks g.S.Sources.at_hand g.K.Sinks.takes g.K.Sinks.flushes
    c.args.limits.now None
    c.args.book.now c.flush_all-ended.new.book c.sources.book c.args.sources.now c.args.sources.now
    c.sources.sources c.args.sinks.now c.flush_all-ended.new.sinks c.flush_all-ended.new.sinks
    (serves_goes_on g.S.Sources.gives g.S.Sources.looks g.S.Sources.at_hand g.K.Sinks.takes g.K.Sinks.flushes
    c.args.limits.now None
    c.args.book.now c.flush_all-ended.new.book c.args.sources.now c.args.sinks.now c.flush_all-ended.new.sinks
    (serves_on g.K.Sinks.takes g.K.Sinks.flushes c.args.limits.now c.flush_all-ended.result c.args.book.now
    c.flush_all-ended.new.book c.args.sinks.now c.flush_all-ended.new.sinks (sym c.is_some.ensures ∙ c.if-is_some.false)
    c.flush_all-ended.ensures.serves))
    c.sources.invariant.goes_on

pub returns-then-is_some-clause-taken : goal.returns-then-is_some-clause-taken
returns-then-is_some-clause-taken g c =
    serves_taken g.K.Sinks.takes g.K.Sinks.flushes c.args.limits.now c.flush_all-ended.result c.args.book.now
    c.flush_all-ended.new.book c.args.sinks.now c.flush_all-ended.new.sinks c.flush_all-ended.ensures.serves
    c.requires.taken

pub returns-then-is_some-2-clause-taken : goal.returns-then-is_some-2-clause-taken
returns-then-is_some-2-clause-taken g c =
    at_hand_taken g.S.Sources.gives g.S.Sources.looks g.S.Sources.at_hand c.index.result.now c.read_at_hand-ended.result
    c.sources.book c.read_at_hand-ended.new.book c.sources.sources c.read_at_hand-ended.new.sources
    c.read_at_hand-ended.ensures c.sources.invariant.taken

pub returns-clause-taken : goal.returns-clause-taken
returns-clause-taken g c = c.sources.invariant.taken

pub returns-then-is_some-clause-stepless : goal.returns-then-is_some-clause-stepless
returns-then-is_some-clause-stepless g c =
    stepless_serves g.K.Sinks.takes g.K.Sinks.flushes c.args.limits.now c.flush_all-ended.result
    c.args.book.now c.flush_all-ended.new.book c.args.sinks.now c.flush_all-ended.new.sinks
    c.flush_all-ended.ensures.serves

pub returns-then-is_some-2-clause-stepless : goal.returns-then-is_some-2-clause-stepless
returns-then-is_some-2-clause-stepless g c =
    stepless-trans None c.read_at_hand-ended.result c.args.book.now c.flush_all-ended.new.book
    c.read_at_hand-ended.new.book
    (stepless_serves g.K.Sinks.takes g.K.Sinks.flushes c.args.limits.now None
    c.args.book.now c.flush_all-ended.new.book c.args.sinks.now c.flush_all-ended.new.sinks
    (serves_on g.K.Sinks.takes g.K.Sinks.flushes c.args.limits.now c.flush_all-ended.result
    c.args.book.now c.flush_all-ended.new.book c.args.sinks.now c.flush_all-ended.new.sinks
    (sym c.is_some.ensures ∙ c.if-is_some.false) c.flush_all-ended.ensures.serves))
    (stepless-trans None c.read_at_hand-ended.result c.flush_all-ended.new.book c.sources.book
    c.read_at_hand-ended.new.book c.sources.invariant.stepless
    (stepless_at_hand g.S.Sources.gives g.S.Sources.looks g.S.Sources.at_hand c.index.result.now
    c.read_at_hand-ended.result c.sources.book c.read_at_hand-ended.new.book c.sources.sources
    c.read_at_hand-ended.new.sources c.read_at_hand-ended.ensures))

pub returns-clause-stepless : goal.returns-clause-stepless
returns-clause-stepless g c =
    stepless-trans None None c.args.book.now c.flush_all-ended.new.book c.sources.book
    (stepless_serves g.K.Sinks.takes g.K.Sinks.flushes c.args.limits.now None
    c.args.book.now c.flush_all-ended.new.book c.args.sinks.now c.flush_all-ended.new.sinks
    (serves_on g.K.Sinks.takes g.K.Sinks.flushes c.args.limits.now c.flush_all-ended.result
    c.args.book.now c.flush_all-ended.new.book c.args.sinks.now c.flush_all-ended.new.sinks
    (sym c.is_some.ensures ∙ c.if-is_some.false) c.flush_all-ended.ensures.serves))
    c.sources.invariant.stepless
