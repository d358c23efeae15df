-- The network and its stream, or why it is not begun.
use Rattle.std.proofs.Common.{◌≡◌, ℕ, List, Bor, All, IfErr, map, refl, rules, ap, sym, subst}
use Rattle.kpn_command_stream.proofs.Common.{All-map, IfOk-weaker, IfErr-weaker, SaysFormat, AreWordsRefused, AreWordsRight, OfCommon, by_file, by_formats, by_network, by_words}
use Rattle.kpn_command_base.specs.Description.{IsDescribed, IsRefusalOfDescription}
use Rattle.kpn_command_stream.proofs.Worded.{All-unmap}
use Rattle.kpn_command_stream.proofs.command.carry_out.Given as given
use Rattle.kpn_command_stream.proofs.command.carry_out.Goals.{After-load_document}
use Rattle.kpn_command_stream.proofs.command.carry_out.Goals as goal

-- the words of the request say formats, since those that were asked do
said : (asked words : List (Bor (List ℕ))) (formats : List (List ℕ)) → asked ≡ words
    → map (λ word. word.now) words ≡ formats → All (λ word. SaysFormat word.now) asked → All SaysFormat formats
said asked words formats same are all =
    subst (All SaysFormat) are
    (All-map SaysFormat (λ word. word.now) words
    (subst (λ (ws : List (Bor (List ℕ))). All (λ word. SaysFormat word.now) ws) same all))

right : (g : given.Over) (c : After-load_document g) → AreWordsRight c.args.request.now
right g c = record {
  formats =
      said c.deref.result.now c.request.inside.formats.items c.args.request.now.formats c.deref.ensures.value
      (ap (λ r. r.formats) c.request.view_is) (c.are_formats.ensures.says c.if-not-are_formats.false);
  apart = c.in_ok-words.ensures.apart;
  trace = c.in_ok-words.ensures.words.trace;
}

pub returns-then-not-are_formats-clause-cause : goal.returns-then-not-are_formats-clause-cause
returns-then-not-are_formats-clause-cause g c =
    by_formats refl (λ all.
    c.are_formats.ensures.none c.if-not-are_formats.true
    (subst (λ (words : List (Bor (List ℕ))). All (λ word. SaysFormat word.now) words) (sym c.deref.ensures.value)
    (All-unmap SaysFormat (λ word. word.now) c.request.inside.formats.items
    (subst (All SaysFormat) (sym (ap (λ r. r.formats) c.request.view_is)) all))))

pub returns-in_err-words-clause-cause : goal.returns-in_err-words-clause-cause
returns-in_err-words-clause-cause g c =
    let Is = OfCommon (AreWordsRefused (g.S.Shelf.may_alias c.args.shelf.now) c.args.request.now) in
    let cause : IfErr c.from_residual.result Is = search rules in
    IfErr-weaker c.from_residual.result Is _
    (λ cause is. by_words
    (said c.deref.result.now c.request.inside.formats.items c.args.request.now.formats c.deref.ensures.value
    (ap (λ r. r.formats) c.request.view_is) (c.are_formats.ensures.says c.if-not-are_formats.false)) is) cause

pub returns-in_err-document-clause-cause : goal.returns-in_err-document-clause-cause
returns-in_err-document-clause-cause g c =
    let Is = OfCommon (IsRefusalOfDescription (g.S.Shelf.may_give c.args.shelf.now) c.args.request.now.file) in
    let cause : IfErr c.from_residual-in_err-document.result Is = search rules in
    IfErr-weaker c.from_residual-in_err-document.result Is _
    (λ cause is. by_file (right g (goal.at.returns-in_err-document-clause-cause g c).After-load_document) is) cause

pub returns-clause-streamed : goal.returns-clause-streamed
returns-clause-streamed g c =
    IfOk-weaker c.stream_document.result _ _
    (λ status streamed. record {
      document = c.in_ok-document.document;
      described =
          subst (λ (file : List ℕ). IsDescribed (g.S.Shelf.may_give c.args.shelf.now) file c.in_ok-document.document)
          (ap (λ r. r.file) c.request.view_is) c.in_ok-document.ensures.ok;
      words = right g (goal.at.returns-clause-streamed g c).After-load_document;
      streamed = streamed;
    })
    c.stream_document.ensures.streamed

pub returns-clause-cause : goal.returns-clause-cause
returns-clause-cause g c =
    IfErr-weaker c.stream_document.result _ _
    (λ cause unstreamed.
    by_network (right g (goal.at.returns-clause-cause g c).After-load_document) c.in_ok-document.document
    (subst (λ (file : List ℕ). IsDescribed (g.S.Shelf.may_give c.args.shelf.now) file c.in_ok-document.document)
    (ap (λ r. r.file) c.request.view_is) c.in_ok-document.ensures.ok)
    unstreamed)
    c.stream_document.ensures.cause
