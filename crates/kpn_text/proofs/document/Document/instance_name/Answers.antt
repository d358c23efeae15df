-- By the table of the instances.
use Rattle.kpn_text.proofs.Common.{List, ℕ, sym, ap, subst, ◌∙◌, IsUtf8, name_at, Document}
use Rattle.kpn_text.proofs.document.Document.instance_name.Goals as goal

pub name_in-requires : goal.name_in-requires
name_in-requires c =
    subst (λ (names : List (List ℕ)). IsUtf8 (name_at names c.args.p)) (sym c.as_slice.ensures)
    ((c.names_are_text.ensures _ c.self.invariant).instances c.args.p)

pub returns : goal.returns
returns c =
    c.name_in.ensures
    ∙ ap (λ (names : List (List ℕ)). name_at names c.args.p)
    (c.as_slice.ensures ∙ ap (λ (d : Document). d.names.instances) c.self.view_is)
