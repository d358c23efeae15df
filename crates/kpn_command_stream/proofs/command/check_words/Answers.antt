-- The words that were asked are those of the request: the outputs are apart, or a refusal has its cause.
use Rattle.std.proofs.Common.{IfErr, ap, not, rules, subst}
use Rattle.kpn_command_stream.proofs.Common.{IfErr-weaker, AreAllApart, IsRefusalOfOutputs, Words, names_standard}
use Rattle.kpn_command_stream.proofs.Listing.{asked_are, words_kept}
use Rattle.kpn_command_stream.proofs.Refusing.{are_taken, output_word}
use Rattle.kpn_command_stream.proofs.command.check_words.Goals as goal

pub returns-clause-apart : goal.returns-clause-apart
returns-clause-apart g c =
    let asked =
    asked_are c.asked_of-asked.result c.args.request.now c.asked_of-asked.ensures.file
    (words_kept (λ word. not (names_standard word)) _ _ _ _ _ _ c.asked_of-asked.ensures.sources c.deref-2.ensures.value
    c.in_ok-files.ensures c.deref.ensures.value (ap (λ r. r.sources) c.request.view_is))
    c.asked_of-asked.ensures.sinks c.asked_of-asked.ensures.trace in
    subst AreAllApart asked c.in_ok-outputs.ensures.apart

pub returns-in_err-outputs-clause-cause : goal.returns-in_err-outputs-clause-cause
returns-in_err-outputs-clause-cause g c =
    let may_alias = g.S.Shelf.may_alias c.args.shelf.now in
    let asked =
    asked_are c.asked_of-asked.result c.args.request.now c.asked_of-asked.ensures.file
    (words_kept (λ word. not (names_standard word)) _ _ _ _ _ _ c.asked_of-asked.ensures.sources c.deref-2.ensures.value
    c.in_ok-files.ensures c.deref.ensures.value (ap (λ r. r.sources) c.request.view_is))
    c.asked_of-asked.ensures.sinks c.asked_of-asked.ensures.trace in
    let cause : IfErr c.from_residual-in_err-outputs.result (IsRefusalOfOutputs may_alias c.asked_of-asked.result) =
    search rules in
    IfErr-weaker c.from_residual-in_err-outputs.result (IsRefusalOfOutputs may_alias c.asked_of-asked.result) _
    (output_word may_alias c.args.request.now c.asked_of-asked.result asked) cause

pub returns-clause-words : goal.returns-clause-words
returns-clause-words g c =
    let words : Words = record { sources = c.in_ok-sources.sources; sinks = c.in_ok-outputs.outputs.sinks } in
    record {
      ends = are_taken words c.args.request.now (search rules) (search rules) (search rules) (search rules);
      trace = search rules;
    }
