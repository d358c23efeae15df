use Rattle.std.proofs.Common.{subst, inl}
use Rattle.kpn_c.specs.Texts.{RunsText}
use Rattle.kpn_c.proofs.runs.kpn_c_run.Goals as goal

pub returns-in-Ok : goal.returns-in-Ok
returns-in-Ok c =
    inl (record {
      told = c.in-Ok.told;
      runs =
          subst (λ limits. RunsText c.args.text.now c.args.items.now c.args.lengths.now limits c.in-Ok.told)
          c.limits_of.ensures c.in-Ok.ensures.ran;
      tells = c.put.ensures;
    })
