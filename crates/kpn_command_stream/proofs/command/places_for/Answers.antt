-- The places of the ends, or why there are none.
use Rattle.std.proofs.Common.{◌≡◌, ◌∙◌, ℕ, List, Bor, IfErr, map, rules, ap, sym, subst}
use Rattle.kpn_command_stream.proofs.Common.{IfErr-weaker, Sources, Sinks, AreSinkPlaces, AreSourcePlaces, IsUnplaced, end_words_in, AreForEnds}
use Rattle.kpn_command_stream.proofs.Refusing.{no_sinks, no_sources}
use Rattle.kpn_command_stream.proofs.Worded.{for_ends}
use Rattle.kpn_command_stream.proofs.command.places_for.Goals as goal

-- the words that are handed on are those of the request
handed_on : (handed kept : List (Bor (List ℕ))) (asked : List (List ℕ)) → handed ≡ kept
    → map (λ word. word.now) kept ≡ asked → map (λ word. word.now) handed ≡ asked
handed_on handed kept asked same are = ap (map (λ (word : Bor (List ℕ)). word.now)) same ∙ are

pub returns-in_err-sources-clause-cause : goal.returns-in_err-sources-clause-cause
returns-in_err-sources-clause-cause g c =
    let d = c.args.document.now in
    let words = end_words_in c.args.words.now c.args.request.now.formats in
    let formats = map (λ (word : Bor (List ℕ)). word.now) c.deref-2.result.now in
    let cause : IfErr c.from_residual.result (IsUnplaced Sources d words.sources formats) = search rules in
    IfErr-weaker c.from_residual.result (IsUnplaced Sources d words.sources formats) _
    (no_sources (g.S.Shelf.may_alias c.args.shelf.now) (g.S.Ports.may_share c.args.shelf.now) d words formats
    (handed_on _ _ _ c.deref-2.ensures.value (ap (λ r. r.formats) c.request.view_is))) cause

pub returns-then-share_an_input-clause-cause : goal.returns-then-share_an_input-clause-cause
returns-then-share_an_input-clause-cause g c =
    let words = end_words_in c.args.words.now c.args.request.now.formats in
    let sources = c.in_ok-sources.sources.items in
    let are : AreSourcePlaces c.args.document.now words sources = search rules in
    let shared = c.share_an_input.ensures.shared c.if-share_an_input.true in
    (sources, are, search rules)

pub returns-in_err-sinks-clause-cause : goal.returns-in_err-sinks-clause-cause
returns-in_err-sinks-clause-cause g c =
    let d = c.args.document.now in
    let words = end_words_in c.args.words.now c.args.request.now.formats in
    let formats = map (λ (word : Bor (List ℕ)). word.now) c.deref-5.result.now in
    let cause : IfErr c.from_residual-in_err-sinks.result (IsUnplaced Sinks d words.sinks formats) = search rules in
    IfErr-weaker c.from_residual-in_err-sinks.result (IsUnplaced Sinks d words.sinks formats) _
    (no_sinks (g.S.Shelf.may_alias c.args.shelf.now) (g.S.Ports.may_share c.args.shelf.now) d words formats
    (handed_on _ _ _ c.deref-5.ensures.value (ap (λ r. r.formats) c.request.view_is))) cause

pub returns-then-not-are_for_ends-clause-cause : goal.returns-then-not-are_for_ends-clause-cause
returns-then-not-are_for_ends-clause-cause g c = λ are.
    c.are_for_ends.ensures.none c.if-not-are_for_ends.true
    (subst (AreForEnds c.args.document.now)
    (sym (handed_on _ _ _ c.deref-6.ensures.value (ap (λ r. r.formats) c.request.view_is))) are.1)

pub returns-then-writes-clause-cause : goal.returns-then-writes-clause-cause
returns-then-writes-clause-cause g c =
    let words = end_words_in c.args.words.now c.args.request.now.formats in
    let sinks = c.in_ok-sinks.sinks.items in
    let are : AreSinkPlaces c.args.document.now words sinks = search rules in
    (sinks, are, c.in_ok-writes.ensures c.if-writes.true)

pub returns-clause-formats : goal.returns-clause-formats
returns-clause-formats g c =
    subst (AreForEnds c.args.document.now)
    (handed_on _ _ _ c.deref-6.ensures.value (ap (λ r. r.formats) c.request.view_is))
    (for_ends c.args.document.now c.deref-6.result.now (c.are_for_ends.ensures.ends c.if-not-are_for_ends.false)
    (c.are_for_ends.ensures.apart c.if-not-are_for_ends.false))
