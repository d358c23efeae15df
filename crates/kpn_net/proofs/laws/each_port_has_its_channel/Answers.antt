use Rattle.kpn_net.proofs.PortsApart.{ins_distinct, outs_distinct, few_ins, few_outs}
use Rattle.kpn_net.proofs.laws.each_port_has_its_channel.Goals as goal

pub returns-clause-ins : goal.returns-clause-ins
returns-clause-ins c = λ t network p below. ins_distinct t network p below

pub returns-clause-outs : goal.returns-clause-outs
returns-clause-outs c = λ t network p below. outs_distinct t network p below

pub returns-clause-few_ins : goal.returns-clause-few_ins
returns-clause-few_ins c = λ t network p below. few_ins t network p below

pub returns-clause-few_outs : goal.returns-clause-few_outs
returns-clause-few_outs c = λ t network p below. few_outs t network p below
