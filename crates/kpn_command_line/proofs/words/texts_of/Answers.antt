-- The texts are those that the words give, and there are none without the option.
use Rattle.kpn_command_line.proofs.Common.{◌≡◌, ◌∙◌, ℕ, List, [], Option, Some, None, ap, map, option_map, refl, sym, unwrap_or, Bor, IfOk-weaker, found_of}
use Rattle.kpn_command_line.proofs.Given.{texts_given}
use Rattle.kpn_command_line.proofs.words.texts_of.Goals as goal

abbrev texts_now : List (Bor (List ℕ)) → List (List ℕ)
texts_now = map (λ t. t.now)

-- the texts of a slice that is there, or of an empty one
unwrapped : (given : Option (Bor (List (Bor (List ℕ))))) (empty : Bor (List (Bor (List ℕ)))) → empty.now ≡ []
    → unwrap_or (option_map (λ s. texts_now s.now) given) [] ≡ texts_now (unwrap_or given empty).now
unwrapped None empty none = ap texts_now (sym none)
unwrapped (Some texts) empty none = refl

pub returns : goal.returns
returns c =
    IfOk-weaker c.from_slice.result _ _
    (λ texts same. texts_given (found_of c.args.matches.now) c.args.id.now c.get_strs.result c.get_strs.ensures
    texts.items (unwrapped c.get_strs.result _ refl ∙ ap (λ s. texts_now s.now) (sym c.unwrap_or.ensures)
    ∙ ap texts_now (sym same)))
    c.from_slice.ensures.items
