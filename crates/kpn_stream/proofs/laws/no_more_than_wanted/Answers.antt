use Rattle.kpn_stream.proofs.Listing.{at_most, exactly}
use Rattle.kpn_stream.proofs.laws.no_more_than_wanted.Goals as goal

pub returns-clause-most : goal.returns-clause-most
returns-clause-most g c = λ t network H legal items first now failed served d sink.
    at_most g.K.Sinks.takes g.K.Sinks.flushes t network first items served legal d sink

pub returns-clause-enough : goal.returns-clause-enough
returns-clause-enough g c = λ t network H legal items first now failed served commits limits is enough d sink.
    exactly g.K.Sinks.takes g.K.Sinks.flushes t network first items H legal now failed served limits.take is enough d
    sink
