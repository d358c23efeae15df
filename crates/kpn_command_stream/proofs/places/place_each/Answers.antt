-- One more place.
use Rattle.kpn_command_stream.proofs.Common.{◌+◌, ◌∙◌, ℕ, List, Bor, map, option_map, refl, sym, ap, subst, NamesFormat, format_word, ArePlaced, EndPlace}
use Rattle.kpn_command_stream.proofs.Refusing.{unnamed}
use Rattle.kpn_command_stream.proofs.Worded.{placed_more, says_none}
use Rattle.kpn_command_stream.proofs.places.place_each.Goals as goal

pub loop-number-preserved : goal.loop-number-preserved
loop-number-preserved c =
    let words = map (λ (word : Bor (List ℕ)). word.now) c.args.formats.now in
    subst
    (λ (places : List EndPlace). ArePlaced c.args.document.now c.args.named.now words c.args.channels.now
    (c.loop-number.number + 1) places) (sym c.in_ok-push.ensures.items)
    (placed_more c.args.document.now c.args.named.now words c.args.channels.now c.loop-number.number
    c.loop-number.places.items _ c.loop-number.invariant c.loop-number-test.true refl
    (sym c.name_for.ensures ∙ ap (option_map (λ (name : Bor (List ℕ)). name.now)) c.in-Some.is)
    (subst (λ (name : List ℕ). NamesFormat (format_word words name) c.in-Some-format_for.format)
    c.channel_name-in-loop-number.ensures c.in-Some-format_for.ensures))

pub returns-in_default-clause-cause : goal.returns-in_default-clause-cause
returns-in_default-clause-cause c =
    unnamed c.args.ends c.args.document.now c.args.named.now c.args.channels.now
    (map (λ (word : Bor (List ℕ)). word.now) c.args.formats.now) _ c.loop-number.number c.loop-number-test.true
    (sym c.name_for.ensures ∙ ap (option_map (λ (name : Bor (List ℕ)). name.now)) c.in_default.is)
    c.channel_name.ensures _ c.unnamed.ensures

pub returns-in_default-format_for-clause-cause : goal.returns-in_default-format_for-clause-cause
returns-in_default-format_for-clause-cause c = says_none _ _ c.in_default-format_for.ensures
