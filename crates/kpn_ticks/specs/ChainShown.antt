-- What contracts see of a course and of a walk that the code holds.
use Rattle.kpn_ticks.specs.declared.moves.Log.{Log}
use Rattle.kpn_ticks.specs.declared.walk.Walker.{Walker}
use Rattle.kpn_ticks.specs.Shown.{shown}
use Rattle.kpn_ticks.specs.Chain.{Course, Walk}

abbrev pub logged : Log → Course
logged log = record { clocks = shown log.clocks; moves = log.moves.items }

abbrev pub walked : Walker → Walk
walked w = record { process = w.process; tick = w.tick; shares = w.shares.items }
