use Rattle.kpn_region.proofs.Common.{◌≡◌, true, false, rules, both_ways, false≢true}
use Rattle.kpn_region.proofs.batch.Batch.agrees_with.Goals as goal

pub returns-then-not-processes_agree : goal.returns-then-not-processes_agree
returns-then-not-processes_agree g c =
    let not_so : c.processes_agree.result ≡ false = search rules in (
      λ is. absurd (false≢true is),
      λ agrees. absurd (both_ways c.processes_agree.result not_so (c.processes_agree.ensures.1 agrees.processes)),
    )

pub returns : goal.returns
returns g c =
    let so : c.processes_agree.result ≡ true = search rules in (
      λ is. record { processes = c.processes_agree.ensures.0 so; channels = c.channels_agree.ensures.0 is },
      λ agrees. c.channels_agree.ensures.1 agrees.channels,
    )
