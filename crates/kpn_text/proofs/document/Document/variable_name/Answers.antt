-- By the table of the processes.
use Rattle.kpn_text.proofs.Common.{List, ap, ◌∙◌, ProcessNames}
use Rattle.kpn_text.specs.Document as spec
use Rattle.kpn_text.proofs.document.Document.variable_name.Goals as goal

pub returns : goal.returns
returns c =
    c.variable_in.ensures
    ∙ ap (λ (processes : List ProcessNames). spec.variable_name processes c.args.i c.args.v)
    (c.as_slice.ensures ∙ ap (λ (d : spec.Document). d.names.processes) c.self.view_is)
