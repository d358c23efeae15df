-- What is put so far, and the values still to come, are all values.
use Rattle.kpn_text.proofs.Common.{◌≡◌, ◌++◌, List, ℕ, drop, map, literal_named, all_text, further_text, literal_text}
use Rattle.kpn_text.proofs.pieces.values.Given as goal

abbrev pub invariant-loop-value : goal.invariant-loop-value
invariant-loop-value l =
    (more : List ℕ)
    → l.out.items ++ all_text (further_text literal_text) (map literal_named (drop l.value-index l.others)) more
    ≡ l.initial.out.items ++ all_text (further_text literal_text) (map literal_named l.others) more
