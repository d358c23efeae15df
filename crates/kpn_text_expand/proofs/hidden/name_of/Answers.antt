-- The lexer finds the name.
use Rattle.kpn_text_expand.proofs.Common.{◌≡◌, Ok, Some, sym, ap, ◌∙◌}
use Rattle.std.specs.Prelude.{slice_get}
use Rattle.kpn_text_expand.proofs.HiddenNames.{name_found}
use Rattle.kpn_text_expand.proofs.hidden.name_of.Goals as goal

pub returns-in-Name : goal.returns-in-Name
returns-in-Name c =
    let first : slice_get c.in-Ok.tokens.items 0 ≡ Some c.in-Some.lexeme.now =
    ap (λ ls. slice_get ls 0) (sym c.as_slice.ensures.value) ∙ sym c.in-Some.ensures.value in
    ap Ok
    (name_found c.args.bytes.now c.in-Name.name c.in-Ok.tokens.items c.in-Some.lexeme.now c.requires
    c.in-Ok.ensures first c.in-Name.is ∙ sym c.copy.ensures)
