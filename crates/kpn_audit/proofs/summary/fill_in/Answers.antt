use Rattle.kpn_audit.proofs.summary.fill_in.Goals as goal

pub returns : goal.returns
returns g c H run = record {
  reads = c.in_ok-audit.ensures;
  caps = c.in_ok-audit-2.ensures;
  complete = c.in_ok-audit-3.ensures H run;
  waits = c.in_ok-audit-4.ensures;
  ends = c.in_ok-audit-5.ensures;
}
