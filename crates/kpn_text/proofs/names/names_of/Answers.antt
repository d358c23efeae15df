-- Table by table.
use Rattle.kpn_text.proofs.Common.{ap, ◌∙◌, named_table, paired}
use Rattle.kpn_text.proofs.Tables.{names_are}
use Rattle.kpn_text.proofs.names.names_of.Goals as goal

pub returns : goal.returns
returns c =
    names_are c.args.named.now c.in_ok-tables.tables c.in_ok-processes.processes c.in_ok-instances.instances
    c.in_ok-channels.channels
    c.as_slice-2.result.now c.as_slice-2.ensures.value
    (c.in_ok-tables.ensures ∙ ap (paired named_table c.args.named.now.shared.names) c.as_slice.ensures)
    c.in_ok-processes.ensures c.in_ok-instances.ensures
    c.in_ok-channels.ensures
