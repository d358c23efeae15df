-- The test compares the text with `true`.
use Rattle.kpn_command_line.proofs.Common.{◌≡◌, ◌∙◌, Bool, true, false, Some, ap, refl, sym, option_map, codes, bytes_eq-Decides, is_true}
use Rattle.kpn_command_line.proofs.Given.{none_of}
use Rattle.kpn_command_line.proofs.words.is_set.Goals as goal

is_false : (b : Bool) → (b ≡ true → ⊥) → b ≡ false
is_false false differs = refl
is_false true differs = absurd (differs refl)

pub returns-in_default : goal.returns-in_default
returns-in_default c =
    sym (ap is_true (c.text_of.ensures
    ∙ ap (option_map (λ word. word.now)) (none_of c.text_of.result c.in_default.not-Some)))

pub returns-in-true : goal.returns-in-true
returns-in-true c =
    sym (ap is_true (c.text_of.ensures ∙ ap (option_map (λ word. word.now)) c.in-Some.is ∙ ap Some c.in-true.is))

pub returns-in_default-text : goal.returns-in_default-text
returns-in_default-text c =
    sym (ap is_true (c.text_of.ensures ∙ ap (option_map (λ word. word.now)) c.in-Some.is)
    ∙ is_false _ (λ equal. c.in_default-text.not-true ((bytes_eq-Decides c.in-Some.text.now (codes "true")).0 equal)))
