use Rattle.kpn_net.proofs.Networks.{IsInstance-of, IsProgram-of}
use Rattle.kpn_net.proofs.laws.instances_match_their_programs.Goals as goal

pub returns-clause-program : goal.returns-clause-program
returns-clause-program c = λ t network p below. IsProgram-of t network p below

pub returns-clause-ins : goal.returns-clause-ins
returns-clause-ins c = λ t network p below. (IsInstance-of t network p below).ins

pub returns-clause-outs : goal.returns-clause-outs
returns-clause-outs c = λ t network p below. (IsInstance-of t network p below).outs

pub returns-clause-pars : goal.returns-clause-pars
returns-clause-pars c = λ t network p below. (IsInstance-of t network p below).pars
