-- The processes that remain, taken from here, lead to the same as all of them.
use Rattle.kpn_text_names.proofs.Common.{◌≡◌, drop, map, process_seen, each, with_named_process, programs_of, programs_seen}
use Rattle.kpn_text_names.proofs.process.Processes.read.Given as goal

abbrev pub invariant-loop-process : goal.invariant-loop-process
invariant-loop-process l =
    each (with_named_process l.language l.shared) (programs_seen l.shared l.read) (map process_seen (drop l.process-index l.processes))
    ≡ programs_of l.language l.shared (map process_seen l.processes)
