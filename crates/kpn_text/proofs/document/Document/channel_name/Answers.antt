-- By the table of the channels.
use Rattle.kpn_text.proofs.Common.{List, ℕ, sym, ap, subst, ◌∙◌, IsUtf8, name_at, Document}
use Rattle.kpn_text.proofs.document.Document.channel_name.Goals as goal

pub name_in-requires : goal.name_in-requires
name_in-requires c =
    subst (λ (names : List (List ℕ)). IsUtf8 (name_at names c.args.c)) (sym c.as_slice.ensures)
    ((c.names_are_text.ensures _ c.self.invariant).channels c.args.c)

pub returns : goal.returns
returns c =
    c.name_in.ensures
    ∙ ap (λ (names : List (List ℕ)). name_at names c.args.c)
    (c.as_slice.ensures ∙ ap (λ (d : Document). d.names.channels) c.self.view_is)
