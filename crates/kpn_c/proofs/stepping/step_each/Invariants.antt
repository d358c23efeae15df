use Rattle.kpn_c.specs.Calls.{TurnsFrom}
use Rattle.kpn_c.proofs.stepping.step_each.Given as goal

abbrev pub invariant-turns : goal.invariant-turns
invariant-turns l = record {
  turns : TurnsFrom l.quota l.initial.book l.commits l.book;
}
