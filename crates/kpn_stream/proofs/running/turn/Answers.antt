use Rattle.kpn_stream.proofs.Common.{Some, None, sym, ap, ◌∙◌, subst, is_source, is_sink, end_numbers, is_halted, Watches}
use Rattle.kpn_stream.proofs.Going.{none_of, serves_on, serves_goes_on, goes_on-trans, taken_then}
use Rattle.kpn_stream.proofs.Seeing.{watches-trans, watches_serves, watches_taken, watches_shown, watches_reads, goes_on_shown, goes_on_still}
use Rattle.kpn_stream.proofs.running.turn.Goals as goal

pub take_all-ended-requires : goal.take_all-ended-requires
take_all-ended-requires g c = c.requires.sinks ∙ ap (end_numbers is_sink) (sym c.step_stretch.ensures.besides.tables)

pub returns-then-is_some-clause-goes_on : goal.returns-then-is_some-clause-goes_on
returns-then-is_some-clause-goes_on g c =
    taken_then g.S.Sources.gives g.S.Sources.looks g.S.Sources.at_hand g.K.Sinks.takes g.K.Sinks.flushes
    c.args.limits.now c.take_all-ended.result
    c.args.book.now c.step_stretch.new.book c.take_all-ended.new.book c.args.sources.now c.args.sinks.now
    c.take_all-ended.new.sinks
    c.step_stretch.ensures c.take_all-ended.ensures.serves

pub returns-then-is_some-clause-watched : goal.returns-then-is_some-clause-watched
returns-then-is_some-clause-watched g c =
    watches_taken g.W.Watcher.knows g.W.Watcher.sees g.K.Sinks.takes g.K.Sinks.flushes c.args.limits.now c.take_all-ended.result
    c.args.book.now c.step_stretch.new.book c.take_all-ended.new.book c.args.sinks.now c.take_all-ended.new.sinks
    c.args.watcher.now c.step_stretch.ensures c.take_all-ended.ensures.serves

pub show-shown-requires-clause-ends : goal.show-shown-requires-clause-ends
show-shown-requires-clause-ends g c =
    c.requires.sinks
    ∙ ap (end_numbers is_sink)
    (sym (c.take_all-ended.ensures.serves.besides.tables ∙ c.step_stretch.ensures.besides.tables))

pub show-shown-requires-clause-taken : goal.show-shown-requires-clause-taken
show-shown-requires-clause-taken g c =
    c.take_all-ended.ensures.taken (none_of c.take_all-ended.result (sym c.is_some.ensures ∙ c.if-is_some.false))

pub come_to_read-requires-clause-sources : goal.come_to_read-requires-clause-sources
come_to_read-requires-clause-sources g c =
    let so_far =
    goes_on_shown g.S.Sources.gives g.S.Sources.looks g.S.Sources.at_hand g.K.Sinks.takes g.K.Sinks.flushes
    c.args.limits.now c.take_all-ended.result c.show-shown.result c.args.book.now c.step_stretch.new.book c.take_all-ended.new.book c.show-shown.new.book
    c.args.sources.now c.args.sinks.now c.take_all-ended.new.sinks c.show-shown.new.sinks c.step_stretch.ensures
    c.take_all-ended.ensures.serves (sym c.is_some.ensures ∙ c.if-is_some.false) c.show-shown.ensures.taken
    c.show-shown.ensures.serves in
    c.requires.sources ∙ ap (end_numbers is_source) (sym so_far.tables)

pub come_to_read-requires-clause-sinks : goal.come_to_read-requires-clause-sinks
come_to_read-requires-clause-sinks g c =
    let so_far =
    goes_on_shown g.S.Sources.gives g.S.Sources.looks g.S.Sources.at_hand g.K.Sinks.takes g.K.Sinks.flushes
    c.args.limits.now c.take_all-ended.result c.show-shown.result c.args.book.now c.step_stretch.new.book c.take_all-ended.new.book c.show-shown.new.book
    c.args.sources.now c.args.sinks.now c.take_all-ended.new.sinks c.show-shown.new.sinks c.step_stretch.ensures
    c.take_all-ended.ensures.serves (sym c.is_some.ensures ∙ c.if-is_some.false) c.show-shown.ensures.taken
    c.show-shown.ensures.serves in
    c.requires.sinks ∙ ap (end_numbers is_sink) (sym so_far.tables)

pub come_to_read-requires-clause-taken : goal.come_to_read-requires-clause-taken
come_to_read-requires-clause-taken g c = c.show-shown.ensures.taken

pub out_of_memory-requires-clause-ends : goal.out_of_memory-requires-clause-ends
out_of_memory-requires-clause-ends g c =
    c.requires.sinks
    ∙ ap (end_numbers is_sink)
    (sym (c.take_all-ended.ensures.serves.besides.tables ∙ c.step_stretch.ensures.besides.tables))

pub out_of_memory-requires-clause-taken : goal.out_of_memory-requires-clause-taken
out_of_memory-requires-clause-taken g c =
    c.take_all-ended.ensures.taken (none_of c.take_all-ended.result (sym c.is_some.ensures ∙ c.if-is_some.false))

pub returns-then-ran_out-clause-goes_on : goal.returns-then-ran_out-clause-goes_on
returns-then-ran_out-clause-goes_on g c =
    goes_on-trans g.S.Sources.gives g.S.Sources.looks g.S.Sources.at_hand g.K.Sinks.takes g.K.Sinks.flushes
    c.args.limits.now (Some c.out_of_memory.result) c.args.book.now c.take_all-ended.new.book c.out_of_memory.new.book
    c.args.sources.now c.args.sources.now c.args.sources.now c.args.sinks.now c.take_all-ended.new.sinks
    c.out_of_memory.new.sinks
    (taken_then g.S.Sources.gives g.S.Sources.looks g.S.Sources.at_hand g.K.Sinks.takes g.K.Sinks.flushes
    c.args.limits.now None c.args.book.now c.step_stretch.new.book c.take_all-ended.new.book c.args.sources.now
    c.args.sinks.now c.take_all-ended.new.sinks c.step_stretch.ensures
    (serves_on g.K.Sinks.takes g.K.Sinks.flushes c.args.limits.now c.take_all-ended.result c.step_stretch.new.book
    c.take_all-ended.new.book c.args.sinks.now c.take_all-ended.new.sinks (sym c.is_some.ensures ∙ c.if-is_some.false)
    c.take_all-ended.ensures.serves))
    (serves_goes_on g.S.Sources.gives g.S.Sources.looks g.S.Sources.at_hand g.K.Sinks.takes g.K.Sinks.flushes
    c.args.limits.now (Some c.out_of_memory.result) c.take_all-ended.new.book c.out_of_memory.new.book
    c.args.sources.now c.take_all-ended.new.sinks c.out_of_memory.new.sinks c.out_of_memory.ensures)

pub returns-then-ran_out-clause-watched : goal.returns-then-ran_out-clause-watched
returns-then-ran_out-clause-watched g c =
    watches_shown g.W.Watcher.knows g.W.Watcher.sees g.K.Sinks.takes g.K.Sinks.flushes c.args.limits.now c.take_all-ended.result
    c.args.book.now c.step_stretch.new.book c.take_all-ended.new.book c.out_of_memory.new.book c.args.sinks.now
    c.take_all-ended.new.sinks c.args.watcher.now c.args.watcher.now (is_halted (Some c.out_of_memory.result))
    c.step_stretch.ensures c.take_all-ended.ensures.serves (sym c.is_some.ensures ∙ c.if-is_some.false)
    (watches_serves g.W.Watcher.knows g.W.Watcher.sees g.K.Sinks.takes g.K.Sinks.flushes c.args.limits.now (Some c.out_of_memory.result)
    c.take_all-ended.new.book c.out_of_memory.new.book c.take_all-ended.new.sinks c.out_of_memory.new.sinks
    c.args.watcher.now c.out_of_memory.ensures)

pub returns-then-is_some-2-clause-goes_on : goal.returns-then-is_some-2-clause-goes_on
returns-then-is_some-2-clause-goes_on g c =
    goes_on_shown g.S.Sources.gives g.S.Sources.looks g.S.Sources.at_hand g.K.Sinks.takes g.K.Sinks.flushes
    c.args.limits.now c.take_all-ended.result c.show-shown.result c.args.book.now c.step_stretch.new.book c.take_all-ended.new.book c.show-shown.new.book
    c.args.sources.now c.args.sinks.now c.take_all-ended.new.sinks c.show-shown.new.sinks c.step_stretch.ensures
    c.take_all-ended.ensures.serves (sym c.is_some.ensures ∙ c.if-is_some.false) c.show-shown.ensures.taken
    c.show-shown.ensures.serves

pub returns-then-is_some-2-clause-watched : goal.returns-then-is_some-2-clause-watched
returns-then-is_some-2-clause-watched g c =
    watches_shown g.W.Watcher.knows g.W.Watcher.sees g.K.Sinks.takes g.K.Sinks.flushes c.args.limits.now c.take_all-ended.result
    c.args.book.now c.step_stretch.new.book c.take_all-ended.new.book c.show-shown.new.book
    c.args.sinks.now c.take_all-ended.new.sinks c.args.watcher.now c.show-shown.new.watcher
    (is_halted c.show-shown.result) c.step_stretch.ensures c.take_all-ended.ensures.serves
    (sym c.is_some.ensures ∙ c.if-is_some.false) c.show-shown.ensures.watched

pub returns-clause-goes_on : goal.returns-clause-goes_on
returns-clause-goes_on g c =
    goes_on-trans g.S.Sources.gives g.S.Sources.looks g.S.Sources.at_hand g.K.Sinks.takes g.K.Sinks.flushes
    c.args.limits.now c.come_to_read.result c.args.book.now c.show-shown.new.book c.come_to_read.new.book
    c.args.sources.now c.args.sources.now c.come_to_read.new.sources c.args.sinks.now c.show-shown.new.sinks
    c.come_to_read.new.sinks
    (goes_on_still g.S.Sources.gives g.S.Sources.looks g.S.Sources.at_hand g.K.Sinks.takes g.K.Sinks.flushes c.args.limits.now c.show-shown.result c.args.book.now
    c.show-shown.new.book c.args.sources.now c.args.sources.now c.args.sinks.now c.show-shown.new.sinks
    (sym c.is_some-2.ensures ∙ c.if-is_some-2.false)
    (goes_on_shown g.S.Sources.gives g.S.Sources.looks g.S.Sources.at_hand g.K.Sinks.takes g.K.Sinks.flushes
    c.args.limits.now c.take_all-ended.result c.show-shown.result c.args.book.now c.step_stretch.new.book c.take_all-ended.new.book c.show-shown.new.book
    c.args.sources.now c.args.sinks.now c.take_all-ended.new.sinks c.show-shown.new.sinks c.step_stretch.ensures
    c.take_all-ended.ensures.serves (sym c.is_some.ensures ∙ c.if-is_some.false) c.show-shown.ensures.taken
    c.show-shown.ensures.serves))
    c.come_to_read.ensures.goes_on

pub returns-clause-watched : goal.returns-clause-watched
returns-clause-watched g c =
    let on = none_of c.show-shown.result (sym c.is_some-2.ensures ∙ c.if-is_some-2.false) in
    let so_far =
    goes_on_shown g.S.Sources.gives g.S.Sources.looks g.S.Sources.at_hand g.K.Sinks.takes g.K.Sinks.flushes
    c.args.limits.now c.take_all-ended.result c.show-shown.result c.args.book.now c.step_stretch.new.book c.take_all-ended.new.book c.show-shown.new.book
    c.args.sources.now c.args.sinks.now c.take_all-ended.new.sinks c.show-shown.new.sinks c.step_stretch.ensures
    c.take_all-ended.ensures.serves (sym c.is_some.ensures ∙ c.if-is_some.false) c.show-shown.ensures.taken
    c.show-shown.ensures.serves in
    watches-trans g.W.Watcher.knows g.W.Watcher.sees c.args.book.now c.show-shown.new.book c.come_to_read.new.book
    c.args.watcher.now c.show-shown.new.watcher c.show-shown.new.watcher (is_halted c.come_to_read.result)
    so_far.tables
    (subst (λ e. Watches g.W.Watcher.knows g.W.Watcher.sees c.args.book.now c.show-shown.new.book c.args.watcher.now
    (is_halted e) c.show-shown.new.watcher) on
    (watches_shown g.W.Watcher.knows g.W.Watcher.sees g.K.Sinks.takes g.K.Sinks.flushes c.args.limits.now c.take_all-ended.result
    c.args.book.now c.step_stretch.new.book c.take_all-ended.new.book c.show-shown.new.book
    c.args.sinks.now c.take_all-ended.new.sinks c.args.watcher.now c.show-shown.new.watcher
    (is_halted c.show-shown.result) c.step_stretch.ensures c.take_all-ended.ensures.serves
    (sym c.is_some.ensures ∙ c.if-is_some.false) c.show-shown.ensures.watched))
    (watches_reads g.W.Watcher.knows g.W.Watcher.sees c.show-shown.new.book c.come_to_read.new.book c.show-shown.new.watcher
    c.come_to_read.result c.known.ensures (c.show-shown.ensures.known on) c.come_to_read.ensures.stepless)

pub returns-clause-taken : goal.returns-clause-taken
returns-clause-taken g c = λ on. c.come_to_read.ensures.taken
