-- The text begins by whether there are rings.
use Rattle.kpn_command_explain.proofs.Common.{◌∙◌, Bool, ap, subst, are_some, BeginsByRings}
use Rattle.kpn_command_explain.proofs.deadlock.deadlock_text.Goals as goal

pub returns : goal.returns
returns c = (
  c.in_ok-told.told,
  c.in_ok-told.ensures,
  subst (λ (there : Bool). BeginsByRings there c.in_ok-text.text.items)
      (c.are_some.ensures ∙ ap are_some c.as_slice-each.ensures) c.in_ok-text.ensures,
)
