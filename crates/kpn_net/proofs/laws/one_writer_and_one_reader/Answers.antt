use Rattle.kpn_net.proofs.Networks.{one_writer, one_reader, writer_of-source, reader_of-sink, source-writer_of, sink-reader_of, writer_is_no_sink, reader_is_no_source}
use Rattle.kpn_net.proofs.laws.one_writer_and_one_reader.Goals as goal

pub returns-clause-writer : goal.returns-clause-writer
returns-clause-writer c = λ t network d below. one_writer t network d below

pub returns-clause-reader : goal.returns-clause-reader
returns-clause-reader c = λ t network d below. one_reader t network d below

pub returns-clause-source : goal.returns-clause-source
returns-clause-source c = λ t d. (λ e. source-writer_of t d e, λ s. writer_of-source t d s)

pub returns-clause-sink : goal.returns-clause-sink
returns-clause-sink c = λ t d. (λ e. sink-reader_of t d e, λ s. reader_of-sink t d s)

pub returns-clause-writer_is_no_sink : goal.returns-clause-writer_is_no_sink
returns-clause-writer_is_no_sink c = λ t network d below. writer_is_no_sink t network d below

pub returns-clause-reader_is_no_source : goal.returns-clause-reader_is_no_source
returns-clause-reader_is_no_source c = λ t network d below. reader_is_no_source t network d below
