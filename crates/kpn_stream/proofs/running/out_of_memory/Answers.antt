use Rattle.kpn_stream.proofs.Common.{Some, None, refl, subst, Serves}
use Rattle.kpn_stream.specs.declared.ending.StreamEnding.TheVariants.{NoMemory}
use Rattle.kpn_stream.proofs.Going.{serves_taken, serves_ending}
use Rattle.kpn_stream.proofs.running.out_of_memory.Goals as goal

pub returns-in-Some : goal.returns-in-Some
returns-in-Some g c =
    subst
    (λ e.
    Serves g.K.Sinks.takes g.K.Sinks.flushes c.args.limits.now e c.args.book.now c.flush_all-ended.new.book
    c.args.sinks.now c.flush_all-ended.new.sinks)
    c.in-Some.is c.flush_all-ended.ensures.serves

pub returns : goal.returns
returns g c =
    let flushes =
    subst
    (λ e.
    Serves g.K.Sinks.takes g.K.Sinks.flushes c.args.limits.now e c.args.book.now c.flush_all-ended.new.book
    c.args.sinks.now c.flush_all-ended.new.sinks)
    c.in_default.is c.flush_all-ended.ensures.serves in
    serves_ending g.K.Sinks.takes g.K.Sinks.flushes c.args.limits.now (Some NoMemory) c.args.book.now
    c.flush_all-ended.new.book c.args.sinks.now c.flush_all-ended.new.sinks c.args.ends.now.sinks.items flushes
    c.requires.ends (c.flush_all-ended.ensures.flushed c.in_default.is)
    (record {
      no_sink = refl;
      no_source = refl;
      ending = (
        tt,
        serves_taken g.K.Sinks.takes g.K.Sinks.flushes c.args.limits.now None c.args.book.now
            c.flush_all-ended.new.book c.args.sinks.now c.flush_all-ended.new.sinks flushes c.requires.taken,
      );
    })
