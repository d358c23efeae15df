-- By the table of the processes.
use Rattle.kpn_text.proofs.Common.{List, map, sym, ap, subst, ◌∙◌, IsUtf8, name_at, ProcessNames, Document}
use Rattle.kpn_text.proofs.document.Document.process_name.Goals as goal

pub process_name_in-requires : goal.process_name_in-requires
process_name_in-requires c =
    subst (λ (processes : List ProcessNames). IsUtf8 (name_at (map (λ p. p.name) processes) c.args.i))
    (sym c.as_slice.ensures) ((c.names_are_text.ensures _ c.self.invariant).processes c.args.i)

pub returns : goal.returns
returns c =
    c.process_name_in.ensures
    ∙ ap (λ (processes : List ProcessNames). name_at (map (λ p. p.name) processes) c.args.i)
    (c.as_slice.ensures ∙ ap (λ (d : Document). d.names.processes) c.self.view_is)
