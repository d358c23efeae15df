-- What is put so far, and the arrays still to come, are all arrays.
use Rattle.kpn_text.proofs.Common.{◌≡◌, ◌++◌, List, ℕ, drop, map, array_named, all_text, declaration_text}
use Rattle.kpn_text.proofs.rows.arrays.Given as goal

abbrev pub invariant-loop-row : goal.invariant-loop-row
invariant-loop-row l =
    (more : List ℕ)
    → l.out.items ++ all_text declaration_text (map array_named (drop l.row-index l.rows)) more
    ≡ l.initial.out.items ++ all_text declaration_text (map array_named l.rows) more
