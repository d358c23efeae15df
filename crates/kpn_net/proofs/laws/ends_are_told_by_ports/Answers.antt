use Rattle.kpn_net.proofs.Networks.{Reads-reader_of, Writes-writer_of}
use Rattle.kpn_net.proofs.PortsApart.{reads_its_ins, writes_its_outs, in_is_there, out_is_there}
use Rattle.kpn_net.proofs.laws.ends_are_told_by_ports.Goals as goal

pub returns-clause-reads : goal.returns-clause-reads
returns-clause-reads c = λ t network p d. reads_its_ins t network p d

pub returns-clause-writes : goal.returns-clause-writes
returns-clause-writes c = λ t network p d. writes_its_outs t network p d

pub returns-clause-reader_is_there : goal.returns-clause-reader_is_there
returns-clause-reader_is_there c = λ t p d e. (Reads-reader_of t p d e).process

pub returns-clause-writer_is_there : goal.returns-clause-writer_is_there
returns-clause-writer_is_there c = λ t p d e. (Writes-writer_of t p d e).process

pub returns-clause-in_is_there : goal.returns-clause-in_is_there
returns-clause-in_is_there c = λ t network p d h. in_is_there t network p d h

pub returns-clause-out_is_there : goal.returns-clause-out_is_there
returns-clause-out_is_there c = λ t network p d h. out_is_there t network p d h
