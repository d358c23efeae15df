-- The programs so far, and the parts that are left.
use Rattle.kpn_text.proofs.Common.{◌≡◌, length, map, into_iter_items, into_iter_len, program_seen}
use Rattle.kpn_text.proofs.Tables.{Made}
use Rattle.kpn_text.proofs.network.programs.Given as goal

abbrev pub invariant-loop-process : goal.invariant-loop-process
invariant-loop-process l =
    Made (map (λ p. p.parts) (map (program_seen l.shared) l.fn.processes.items)) l.programs.items
    (map (λ p. p.parts) (map (program_seen l.shared) (into_iter_items l.process-iterator)))
    × (into_iter_len l.process-iterator ≡ length (into_iter_items l.process-iterator))
