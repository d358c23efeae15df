use Rattle.kpn_commands.proofs.Common.{◌∙◌, ap, list_all, is_settled}
use Rattle.kpn_commands.proofs.Joins.{part_rests}
use Rattle.kpn_commands.proofs.join.is_part_at_rest.Goals as goal

pub returns-then-audit : goal.returns-then-audit
returns-then-audit c =
    let q = is_settled c.args.part.now c.args.homes.now c.args.audits.now c.args.r in
    c.are_settled.ensures ∙ ap (list_all q) c.as_slice.ensures
    ∙ part_rests c.args.part.now c.args.homes.now c.args.audits.now c.args.r c.index-audits-r.result _ c.requires
    c.index-audits-r.is c.if-audit.true
