use Rattle.kpn_commands.proofs.Common.{◌∙◌, refl, audited_journal, audited_capacity}
use Rattle.kpn_commands.proofs.Joins.{no_audit, shown_next}
use Rattle.kpn_commands.proofs.join.whole_audit.Goals as goal

pub push_home-requires-clause-part : goal.push_home-requires-clause-part
push_home-requires-clause-part c = (c.requires c.loop-c.c _ no_audit c.loop-c-test.true).0

pub push_home-requires-clause-channel : goal.push_home-requires-clause-channel
push_home-requires-clause-channel c = λ audit. (c.requires c.loop-c.c _ audit c.loop-c-test.true).1

pub loop-c-preserved : goal.loop-c-preserved
loop-c-preserved c = (
  c.in_ok-push_home.ensures.journals
      ∙ shown_next (audited_journal c.args.audits.now) c.args.homes.now c.loop-c.c _ c.loop-c.journals.items _
      c.loop-c-test.true c.loop-c.invariant.0 refl,
  c.in_ok-push_home.ensures.caps
      ∙ shown_next (audited_capacity c.args.audits.now) c.args.homes.now c.loop-c.c _ c.loop-c.caps.items _
      c.loop-c-test.true c.loop-c.invariant.1 refl,
)
