-- The event is one of the trace, and its scene is that of the network.
use Rattle.kpn_command_explain.proofs.Common.{subst, ExplainsEvent}
use Rattle.kpn_command_explain.proofs.Conclusions.{event_there, concludes_illegal}
use Rattle.kpn_command_explain.proofs.trace.illegal.Goals as goal

pub scene_before-requires : goal.scene_before-requires
scene_before-requires c =
    event_there c.args.document.now.tables c.args.trace.now c.args.steps c.args.k c.requires

pub illegal_text-requires : goal.illegal_text-requires
illegal_text-requires c =
    event_there c.args.document.now.tables c.args.trace.now c.args.steps c.args.k c.requires

pub returns-clause-ok : goal.returns-clause-ok
returns-clause-ok c = (
  concludes_illegal c.args.document.now c.network.result.now c.network.ensures c.args.name.now c.args.bytes.now
      c.args.trace.now c.args.steps c.in_ok-text.text.items c.args.k c.requires c.in-Ok.scene c.in-Ok.ensures.scene
      (subst
      (λ name. ExplainsEvent name c.args.bytes.now c.args.trace.now c.args.k c.in_ok-text.text.items)
      c.as_bytes.ensures.value c.in_ok-text.ensures),
  c.new.ensures.items,
)
