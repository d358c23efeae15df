-- The line about formats is written in two parts.
use Rattle.kpn_command_stream.proofs.Common.{◌≡◌, ℕ, List, [], ◌∷◌, ◌++◌, refl, sym, subst, IsLineTold, StreamRefusal, refusal_text}
use Rattle.kpn_command_stream.proofs.refusal.StreamRefusal.report.Goals as goal

both : (first second start end : List ℕ) → first ≡ start → second ≡ end → first ++ second ≡ start ++ end
both first second start end same_first same_second = rw (same_first, same_second) refl

pub returns-in-FormatWord-clause-told : goal.returns-in-FormatWord-clause-told
returns-in-FormatWord-clause-told g c =
    let before = g.E.Write.contents c.args.err.now in
    let after = g.E.Write.contents c.end_line-in-FormatWord.new.err in
    subst (λ (refusal : StreamRefusal). IsLineTold before after (refusal_text refusal ++ 10 ∷ []))
    (sym c.in-FormatWord.is)
    (subst (λ (line : List ℕ). IsLineTold before after (line ++ 10 ∷ []))
    (both _ _ _ _ c.as_bytes-in-FormatWord.ensures.value c.as_bytes-in-FormatWord-2.ensures.value)
    (c.end_line-in-FormatWord.ensures.told _ _ (c.put_more-whole.ensures _ _ c.put-whole-in-FormatWord.ensures)))
