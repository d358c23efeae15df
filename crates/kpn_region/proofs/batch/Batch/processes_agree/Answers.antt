use Rattle.kpn_region.proofs.Common.{◌≡◌, ◌<◌, true, false, length, ap, subst, inl, inr, arith, rules, both_ways, cases_lt, false≢true, ProcessAgrees}
use Rattle.kpn_region.proofs.batch.Batch.processes_agree.Goals as goal

pub process_agrees-requires-clause-process : goal.process_agrees-requires-clause-process
process_agrees-requires-clause-process g c =
    let count = ap (λ t. length t.instances) c.network-network.ensures in
    let below : c.processes.p < length c.network-network.result.now.instances = search rules in
    omega (arith, count, below)

pub returns-then-not-process_agrees : goal.returns-then-not-process_agrees
returns-then-not-process_agrees g c =
    let not_so : c.process_agrees.result ≡ false = search rules in
    let count = ap (λ t. length t.instances) c.network-network.ensures in
    let below : c.processes.p < length c.network-network.result.now.instances = search rules in (
      λ is. absurd (false≢true is),
      λ all.
          absurd (both_ways c.process_agrees.result not_so
          (c.process_agrees.ensures.1 (all c.processes.p (omega (arith, count, below))))),
    )

pub processes-preserved : goal.processes-preserved
processes-preserved g c q below =
    let so : c.process_agrees.result ≡ true = search rules in
    elim (cases_lt q c.processes.p) [
      | inl before ↦ c.processes.invariant q before
      | inr behind ↦
          subst (λ k. ProcessAgrees c.args.self.now.first c.args.machine.now k) (omega (arith, below, behind))
          (c.process_agrees.ensures.0 so)
    ]
