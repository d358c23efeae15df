-- What is put so far, and the processes still to come, are all processes.
use Rattle.kpn_text.proofs.Common.{◌≡◌, ◌++◌, List, ℕ, drop, paired, process_named, all_text, process_text}
use Rattle.kpn_text.proofs.networks.processes.Given as goal

abbrev pub invariant-loop-i : goal.invariant-loop-i
invariant-loop-i l =
    (more : List ℕ)
    → l.out.items
    ++ all_text (process_text l.language) (paired process_named (drop l.i l.names) (drop l.i l.network.programs)) more
    ≡ l.initial.out.items
    ++ all_text (process_text l.language) (paired process_named l.names l.network.programs) more
