-- The files so far, and those of the sinks that are still to come, are all.
use Rattle.kpn_commands.proofs.Common.{◌≡◌, ◌++◌, drop, map, stored_as}
use Rattle.kpn_commands.specs.Files.{sink_files}
use Rattle.kpn_commands.proofs.files.push_sinks.Given as goal

abbrev pub invariant-loop-sink : goal.invariant-loop-sink
invariant-loop-sink l =
    map stored_as l.files.items ++ sink_files l.sinks l.wanted l.sink (drop l.sink l.taken)
    ≡ map stored_as l.initial.files.items ++ sink_files l.sinks l.wanted 0 l.taken
